-- What the steps of reading give, over places in the bytes and in the types of the code. Definitions only.
use Rattle.std.specs.Prelude.{ℕ, zero, suc, ◌+◌, ◌-◌, ◌*◌, ◌≤◌, Bool, true, false, cond, List, [], ◌∷◌, leb, ℤ, pos, neg_ℤ, length, get_or, Option, Some, None}
use Rattle.glyf.specs.Layout.{bit, signed, in16, Taken, taken, cut}
use Rattle.glyfread.specs.declared.walk.Flag.{Flag}
use Rattle.glyfread.specs.declared.walk.Delta.{Delta}
use Rattle.glyfread.specs.declared.walk.Scan.{Scan}

-- ---- words

abbrev pub word_at : List ℕ → ℕ → ℕ
word_at bs at = get_or bs at 0 * 256 + get_or bs (at + 1) 0

-- n words from a place on
unfoldable pub words_at : List ℕ → ℕ → ℕ → List ℕ
words_at bs at zero = []
words_at bs at (suc n) = word_at bs at ∷ words_at bs (at + 2) n

-- ---- flags

-- a flag that is due once more at least; else one that stands in the bytes, with its repeat
abbrev pub due_flag : ℕ → Option Flag → ℕ → ℕ → Option Flag
due_flag zero fresh at f = fresh
due_flag (suc due) fresh at f = Some (record { at = at; due = due; flag = f })

abbrev pub fresh_flag : List ℕ → ℕ → Option Flag
fresh_flag bs at =
    cond (leb (length bs) at) None
    (cond (bit 8 (get_or bs at 0))
    (cond (leb (length bs) (at + 1)) None (Some (record { at = at + 2; due = get_or bs (at + 1) 0; flag = get_or bs at 0 })))
    (Some (record { at = at + 1; due = 0; flag = get_or bs at 0 })))

unfoldable pub next_flag : List ℕ → ℕ → ℕ → ℕ → Option Flag
next_flag bs at due f = due_flag due (fresh_flag bs at) at f

abbrev pub FlagWithin : ℕ → Option Flag → Type 0
FlagWithin n (Some v) = v.at ≤ n
FlagWithin n None = Unit

-- ---- differences

abbrev pub width_of : Bool → Bool → ℕ
width_of true same = 1
width_of false true = 0
width_of false false = 2

unfoldable pub short_at : List ℕ → ℕ → Bool → Option Delta
short_at bs at same =
    cond (leb (length bs) at) None
    (cond same (Some (record { value = pos (get_or bs at 0); at = at + 1 })) (Some (record { value = neg_ℤ (pos (get_or bs at 0)); at = at + 1 })))

unfoldable pub long_at : List ℕ → ℕ → Bool → Option Delta
long_at bs at same =
    cond same (Some (record { value = pos 0; at = at }))
    (cond (leb (length bs) at) None (cond (leb (length bs) (at + 1)) None (Some (record { value = signed (word_at bs at); at = at + 2 }))))

abbrev pub delta_at : List ℕ → ℕ → Bool → Bool → Option Delta
delta_at bs at short same = cond short (short_at bs at same) (long_at bs at same)

-- ---- coordinates

abbrev pub moved_if : Bool → ℤ → Option ℤ
moved_if true z = Some z
moved_if false z = None

unfoldable pub moved_to : ℤ → Option ℤ
moved_to z = moved_if (in16 z) z

-- ---- the flags of a description

unfoldable pub widths : ℕ → ℕ → List ℕ → ℕ
widths short same [] = 0
widths short same (f ∷ fs) = width_of (bit short f) (bit same f) + widths short same fs

-- where they end, and the bytes of the differences; with so many bytes counted already
unfoldable pub scan_on : ℕ → ℕ → ℕ → Taken (List ℕ) → Option Scan
scan_on n wx wy (taken fs rest) = Some (record { xs = n - length rest; wide_x = wx + widths 2 16 fs; wide_y = wy + widths 4 32 fs })
scan_on n wx wy cut = None

abbrev pub scan_of : ℕ → Taken (List ℕ) → Option Scan
scan_of n t = scan_on n 0 0 t

abbrev pub ScanWithin : ℕ → Option Scan → Type 0
ScanWithin n (Some s) = (s.xs ≤ n) × (s.wide_x ≤ 131072) × (s.wide_y ≤ 131072)
ScanWithin n None = Unit
