-- What the steps before the copying out leave in the row for points. Definitions only.
use Rattle.std.specs.Prelude.{ℕ, ◌≤◌, Bool, ◌≡◌, length, take, Result, Ok, Err}
use Rattle.refusals.specs.declared.refusal.Refusal.{Refusal}
use Rattle.optimize.specs.declared.Tally.{Tally}
use Rattle.contour.specs.Points.{Points}
use Rattle.contour.specs.Writing.{Holds}
use Rattle.contour.specs.Output.{Outputs, outputs}
use Rattle.assembly.specs.declared.Crunching as C
use Rattle.assembly.specs.declared.Crunching.TheVariants as Crunching
use Rattle.assembly.specs.declared.Progress.{Progress}
use Rattle.crunch.specs.Crunch.{Outcome, refused, crunched, over_if}
use Rattle.crunch.specs.declared.Crunched as D

-- an outcome as it is handed back: the points stand in the first places of the row
pub data Gives (row : Points) : Outcome → Result D.Crunched Refusal → Type 0 where
  no : {r : Result D.Crunched Refusal} {k : Refusal} → r ≡ Err k → Gives row (refused k) r
  yes : {r : Result D.Crunched Refusal} {ps : Points} {n : ℕ} {t : Tally} → r ≡ Ok (record { points = n; tally = t }) → Holds row n ps → Gives row (crunched ps t) r

-- what becomes of the points in the row
abbrev pub outcome_by : Bool → Points → Progress → Outcome
outcome_by closed row p = over_if closed p.w.over (take p.w.count row) p.tally

abbrev pub outcome_in : Bool → Points → Result C.Crunching Refusal → Outcome
outcome_in closed row (Err k) = refused k
outcome_in closed row (Ok (Crunching.Ended p)) = outcome_by closed row p
outcome_in closed row (Ok (Crunching.Going p)) = outcome_by closed row p

-- the points that are counted stand in the row
abbrev pub Counted : Points → Result C.Crunching Refusal → Type 0
Counted row (Err k) = Unit
Counted row (Ok (Crunching.Ended p)) = p.w.count ≤ length row
Counted row (Ok (Crunching.Going p)) = p.w.count ≤ length row

-- so many points stand in the row, and every output row has places for them
abbrev pub Fits : Points → Outputs → Result D.Crunched Refusal → Type 0
Fits row o (Err k) = Unit
Fits row (outputs ox oy of) (Ok c) = (c.points ≤ length row) × (c.points ≤ length ox) × (c.points ≤ length oy) × (c.points ≤ length of)
