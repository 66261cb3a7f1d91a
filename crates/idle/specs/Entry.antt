-- What the two entries hand back and leave in every lent row. Definitions only.
use Rattle.std.specs.Prelude.{ℕ, ◌+◌, List, length, Result}
use Rattle.refusals.specs.declared.refusal.Refusal.{Refusal}
use denote.Triple.Both.{Both}
use Rattle.contour.specs.Output.{Outputs}
use Rattle.rows.specs.Lent.{Inputs, inputs}
use Rattle.clean.specs.Clean.{Cleaning}
use Rattle.clean.specs.Entry.{Rows, Sifts, Restores}
use Rattle.clean.specs.declared.Cleaned.{Cleaned}
use Rattle.idle.specs.Idle.{idle_of}
use Rattle.idle.specs.PutBack.{spots_of}

-- ---- dropping

-- the points kept, and the list
abbrev pub idle_in : Inputs → Cleaning
idle_in (inputs xs ys fs) = idle_of xs ys fs

-- the entry's contract, in the values of cleaning's `report`. 1 to 5 first; then 18, the list row is too short for the drops; last 9, an output row is too short for the points kept. A
-- refusal writes nothing; else the points kept and the list stand in the first places of their rows, and the other places stay.
abbrev pub Promise : Inputs → Both Rows Rows → Result Cleaned Refusal → Type 0
Promise i w r = Sifts i (idle_in i) w r

-- ---- putting back

-- as many places as points are kept and listed
abbrev pub spots_for : Inputs → List (List ℕ) → List (List ℕ)
spots_for (inputs xs ys fs) list = spots_of (length fs) list (length fs + length list)

-- the entry's contract. 1: the kept rows differ in length; 2: no point is kept; 3: more than 1,024 points with the drops; last 9: an output row is
-- too short for them
abbrev pub PutPromise : Inputs → List (List ℕ) → Both Outputs Outputs → Result ℕ Refusal → Type 0
PutPromise i list w r = Restores i (length list) (spots_for i list) w r
