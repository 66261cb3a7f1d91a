-- Which segments of a contour the runs hold, as types; proofs/Covered has a proof of each. Definitions only.
use Rattle.std.specs.Prelude.{ℕ, zero, suc, ◌-◌, ◌%◌, ◌<◌, Bool, true, false, List, [], ◌∷◌, ◌++◌, map, ◌≡◌, eqb, ℤ}
use Rattle.outline.specs.Segments.{one_more, count_of}
use Rattle.runs.specs.Runs.{corner_list, runs_of}
use Rattle.runs.specs.declared.Run.{Run}

-- so many numbers, from a on
unfoldable pub upward : ℕ → ℕ → List ℕ
upward a zero = []
upward a (suc count) = a ∷ upward (suc a) count

-- the segments of one run after the other, by their numbers; going round, segment 0 comes after the last of n
unfoldable pub segments_in : ℕ → List Run → List ℕ
segments_in n [] = []
segments_in n (r ∷ rs) = map (λ (i : ℕ). i % n) (upward r.first r.count) ++ segments_in n rs

-- how often a number stands in a list
unfoldable pub how_often : ℕ → List ℕ → ℕ
how_often s [] = 0
how_often s (i ∷ is) = one_more (eqb s i) (how_often s is)

-- the last of a list that begins with a
unfoldable pub last_from : ℕ → List ℕ → ℕ
last_from a [] = a
last_from a (b ∷ corners) = last_from b corners

module _ (xs ys : List ℤ) (fs : List ℕ) where
  abbrev pub segments_of : Bool → List ℕ
  segments_of closed = segments_in (count_of fs) (runs_of closed xs ys fs)

-- In closed mode the runs hold the segments from the first corner a to the last segment, and then those from segment 0 up to a.
abbrev pub RunsGoRound : Type 0
RunsGoRound = (xs ys : List ℤ) (fs : List ℕ) (a : ℕ) (corners : List ℕ) → corner_list xs ys fs ≡ a ∷ corners →
    segments_of xs ys fs true ≡ upward a (count_of fs - a) ++ upward 0 a

-- So, where there is a corner, each segment lies in exactly one run, once: none is lost and none is worked twice.
abbrev pub EachSegmentOnce : Type 0
EachSegmentOnce = (xs ys : List ℤ) (fs : List ℕ) (a : ℕ) (corners : List ℕ) → corner_list xs ys fs ≡ a ∷ corners →
    (s : ℕ) → s < count_of fs → how_often s (segments_of xs ys fs true) ≡ 1

-- In the crate's mode they hold those from the first corner up to the last corner, and no others.
abbrev pub RunsFromFirstToLast : Type 0
RunsFromFirstToLast = (xs ys : List ℤ) (fs : List ℕ) (a : ℕ) (corners : List ℕ) → corner_list xs ys fs ≡ a ∷ corners →
    segments_of xs ys fs false ≡ upward a (last_from a corners - a)
