-- How the code's progress, with the row for points, stands for a state of the definition. Definitions only.
use Rattle.std.specs.Prelude.{ℕ, ◌+◌, ◌≤◌, ◌≡◌, ℤ, List, Float, length, take, Option, Some, None, Result, Ok, Err}
use Rattle.refusals.specs.declared.refusal.Refusal.{Refusal}
use Rattle.rows.specs.Lent.{Lent, before, after, room}
use Rattle.contour.specs.Points.{Points}
use Rattle.contour.specs.Writing.{Wrote, written}
use Rattle.optimize.specs.Fallen.{Upto}
use Rattle.optimize.specs.Tally.{untried}
use Rattle.optimize.specs.declared.Tally.{Tally}
use Rattle.survey.specs.Survey.{samples_used, breaks_used}
use Rattle.survey.specs.declared.Surveyed as Y
use Rattle.edition.specs.Edition.{FoundBreaks}
use Rattle.assembly.specs.Assembly.{State, refused, ended, going, closed_up}
use Rattle.assembly.specs.declared.Crunching as C
use Rattle.assembly.specs.declared.Crunching.TheVariants as Crunching
use Rattle.assembly.specs.declared.Progress.{Progress}

pub data Stands (room : ℕ) (row : Points) : State → Result C.Crunching Refusal → Type 0 where
  stops : {r : Result C.Crunching Refusal} {k : Refusal} → r ≡ Err k → Stands room row (refused k) r
  ends : {r : Result C.Crunching Refusal} {p : Progress} {ps : Points} {t : Tally} → r ≡ Ok (Crunching.Ended p) → Wrote row p.w (written room ps) → p.tally ≡ t →
      Stands room row (ended ps t) r
  goes : {r : Result C.Crunching Refusal} {p : Progress} {ps : Points} {t : Tally} → r ≡ Ok (Crunching.Going p) → Wrote row p.w (written room ps) → p.tally ≡ t →
      Stands room row (going ps t) r

abbrev pub tally_in : Result C.Crunching Refusal → Tally
tally_in (Err k) = untried
tally_in (Ok (Crunching.Ended p)) = p.tally
tally_in (Ok (Crunching.Going p)) = p.tally

-- after whatever points stood in the row, with what was counted so far, a state
abbrev pub Onward : (Points → Tally → State) → Points → Points → Progress → ℕ → Result C.Crunching Refusal → Type 0
Onward state old new p long r = (ps : Points) → Wrote old p.w (written long ps) → Stands long new (state ps p.tally) r

-- a survey and its rows, as an edition is lent them: so many samples and breaks stand there, and the breaks were found
abbrev pub FoundIn : List (List Float) → Result (Option Y.Surveyed) Refusal → Type 0
FoundIn breaks (Err k) = Unit
FoundIn breaks (Ok None) = Unit
FoundIn breaks (Ok (Some s)) = FoundBreaks (take s.breaks breaks)

pub record Sighted (samples breaks : List (List Float)) (s : Result (Option Y.Surveyed) Refusal) : Type 0 where
  pub samples_in_lem : samples_used s ≤ length samples
  pub breaks_in_lem : breaks_used s ≤ length breaks
  pub found : FoundIn breaks s

-- what a function that adds one run's points to the row leaves
pub record Adds (state : Points → Tally → State) (row : Lent (List ℤ)) (p : Progress) (r : Result C.Crunching Refusal) : Type 0 where
  pub stands : Onward state (before row) (after row) p (room row) r
  pub few : (runs : ℕ) → Upto runs p.tally → Upto (runs + 1) (tally_in r)

-- what stood for a state stands for the same one closed up
abbrev pub ClosesUp : Points → Points → Result C.Crunching Refusal → List ℤ → Result C.Crunching Refusal → Type 0
ClosesUp old new c s r = (x : State) → Stands (length old) old x c → Stands (length old) new (closed_up s x) r
