-- What is asked to be proved of a contour that is written out, as types; proofs/Theorems has a proof of each. Definitions only.
use Rattle.std.specs.Prelude.{ℕ, suc, ◌+◌, ◌/◌, ◌%◌, ◌≤◌, ◌<◌, true, List, [], map, ◌≡◌, ℤ, pos, negsuc, neg_ℤ, ◌+ℤ◌, length, get_or, Result, Ok}
use denote.Triple.Both.{Both}
use Rattle.refusals.specs.Refusals.{judged}
use Rattle.refusals.specs.declared.refusal.Refusal.{Refusal}
use Rattle.rows.specs.Lent.{Inputs, inputs}
use Rattle.contour.specs.Points.{Points}
use Rattle.contour.specs.Implied.{number}
use Rattle.contour.specs.Output.{Outputs, outputs}
use Rattle.halving.specs.Cubic.{nearest}
use Rattle.explicit.specs.Explicit.{points_of, start_of, turned, both_off, doubled, explicit_of, outline_of}
use Rattle.explicit.specs.Entry.{room_of, Promise}
use Rattle.explicit.specs.Determine.{first_of}

-- the rows that are written, as rows that are read
abbrev pub read_again : Outputs → Inputs
read_again (outputs ox oy of) = inputs ox oy of

abbrev pub judged_by : Inputs → Result Unit Refusal
judged_by (inputs xs ys fs) = judged xs ys fs

-- what is written is refused by none of 1 to 5
abbrev pub NoneRefused : Type 0
NoneRefused = (i : Inputs) (w : Both Outputs Outputs) (n : ℕ) → Promise i w (Ok n) →
    judged_by (read_again (first_of (Ok n) w.exit)) ≡ Ok tt

-- there are never fewer points than came: 3, of what is written, settles it for them too
abbrev pub NeverFewer : Type 0
NeverFewer = (xs ys : List ℤ) (fs : List ℕ) → length fs ≤ length (explicit_of (inputs xs ys fs))

-- half of a whole number, as GLIF's reader has it: these are the equations of `half_away` in specs/Middles of `glifread`
pub record HalvesAway : Type 0 where
  pub up : (n : ℕ) → nearest 1 (pos n) ≡ pos ((n + 1) / 2)
  pub down : (n : ℕ) → nearest 1 (negsuc n) ≡ neg_ℤ (pos ((n + 2) / 2))

-- ---- a contour that 1 to 5 let through is written as itself, its flags 1 or 0

pub record Itself (xs ys : List ℤ) (fs : List ℕ) (w : Both Outputs Outputs) (r : Result ℕ Refusal) : Type 0 where
  pub all : r ≡ Ok (length fs)
  pub same : first_of r w.exit ≡ outputs xs ys (map (λ (f : ℕ). f % 2) fs)

abbrev pub ItselfWhenExplicit : Type 0
ItselfWhenExplicit = (xs ys : List ℤ) (fs : List ℕ) (w : Both Outputs Outputs) (r : Result ℕ Refusal) → judged xs ys fs ≡ Ok tt →
    length fs ≤ room_of w.entry → Promise (inputs xs ys fs) w r → Itself xs ys fs w r

-- ---- where each middle is whole, the outline is the same

-- a whole number is half of the sum
pub record Even (sum : ℤ) : Type 0 where
  pub half : ℤ
  pub even : half +ℤ half ≡ sum

pub record WholeMiddle (p q : List ℤ) : Type 0 where
  pub x : Even (number p 0 +ℤ number q 0)
  pub y : Even (number p 1 +ℤ number q 1)

-- of each two off-curve points that follow each other
abbrev pub WholeMiddles : Points → Type 0
WholeMiddles ps = (k : ℕ) → suc k < length ps → both_off (get_or ps k []) (get_or ps (suc k) []) ≡ true → WholeMiddle (get_or ps k []) (get_or ps (suc k) [])

-- the points that are written, doubled, are the outline of the contour as it came; and so is the outline of what is written
pub record Kept (i written : Inputs) : Type 0 where
  pub points : map doubled (points_of written) ≡ outline_of i
  pub outline : outline_of written ≡ outline_of i

abbrev pub OutlineKept : Type 0
OutlineKept = (i : Inputs) (w : Both Outputs Outputs) (n : ℕ) → Promise i w (Ok n) → WholeMiddles (turned (start_of i) (points_of i)) →
    Kept i (read_again (first_of (Ok n) w.exit))
