-- How an edition's progress, with its row for points, stands for a state of the definition, from one step to the next. Definitions only.
use Rattle.std.specs.Prelude.{ℕ, ◌+◌, Bool, true, false, ◌≡◌, length, replicate, Result, Ok, Err}
use Rattle.refusals.specs.declared.refusal.Refusal.{Refusal}
use Rattle.rows.specs.Rows.{point_zero}
use Rattle.optimize.specs.Fallen.{Upto}
use Rattle.optimize.specs.Tally.{untried}
use Rattle.contour.specs.Points.{Points}
use Rattle.edition.specs.Scratch.{cleared}
use Rattle.assembly.specs.Assembly.{State}
use Rattle.assembly.specs.Stands.{Stands, tally_in}
use Rattle.assembly.specs.declared.Crunching as C
use Rattle.assembly.specs.declared.Crunching.TheVariants as Crunching
use Rattle.crunch.specs.Crunch.{Outcome}
use Rattle.crunch.specs.Entry.{LentRows}
use Rattle.crunch.specs.Stands.{Gives}
use Rattle.crunch.specs.Steps.{copied}
use Rattle.crunch.specs.declared.Crunched as D

-- an edition whose work has ended, or was refused
abbrev pub over_in : Result C.Crunching Refusal → Bool
over_in (Err k) = true
over_in (Ok (Crunching.Ended p)) = true
over_in (Ok (Crunching.Going p)) = false

-- what stood for a state stands for f of it
abbrev pub Carries : (State → State) → Points → Points → Result C.Crunching Refusal → Result C.Crunching Refusal → Type 0
Carries f old new c r = (x : State) → Stands (length old) old x c → Stands (length old) new (f x) r

-- one run's step of an edition
pub record Moves (f : State → State) (old new : Points) (c r : Result C.Crunching Refusal) : Type 0 where
  pub stands : Carries f old new c r
  pub few : (runs : ℕ) → Upto runs (tally_in c) → Upto (runs + 1) (tally_in r)

-- the beginning
pub record Begins (room : ℕ) (row : Points) (x : State) (r : Result C.Crunching Refusal) : Type 0 where
  pub stands : Stands room row x r
  pub none : tally_in r ≡ untried

-- what stands in a row for points stands there for some state
pub record Stood (row : Points) (c : Result C.Crunching Refusal) : Type 0 where
  pub state : State
  pub stands : Stands (length row) row state c

-- the end
abbrev pub Comes : (State → Outcome) → Points → Points → Result C.Crunching Refusal → Result D.Crunched Refusal → Type 0
Comes f old new c r = (x : State) → Stands (length old) old x c → Gives new (f x) r

-- an edition's rows, when they are handed back
pub record HandedOver (t : LentRows) (c : Result D.Crunched Refusal) : Type 0 where
  pub outs : t.exit.outs ≡ copied c t.entry.points t.entry.outs
  pub work : t.exit.work ≡ cleared t.entry.work
  pub points : t.exit.points ≡ replicate (length t.entry.points) point_zero
