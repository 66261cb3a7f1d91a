-- The whole: what becomes of a contour, given how many places the rows have and what the caller chooses. Definitions only.
use Rattle.std.specs.Prelude.{ℕ, Bool, true, false, List, ltb, ℤ, length, Result, Ok, Err}
use Rattle.refusals.specs.declared.refusal.Refusal.TheVariants.{OutputTooShort}
use Rattle.refusals.specs.declared.refusal.Refusal.{Refusal}
use Rattle.settings.specs.Settings.{judged_for}
use Rattle.settings.specs.declared.Settings.{Settings}
use Rattle.optimize.specs.declared.Tally.{Tally}
use Rattle.edition.specs.Edition.{Rooms}
use Rattle.contour.specs.Points.{Points}
use Rattle.contour.specs.Implied.{finished}
use Rattle.assembly.specs.Assembly.{State, crunch_runs}

-- a refusal; or the points out, the pairs tried and the lookups that fell in them
pub data Outcome : Type 0 where
  refused : Refusal → Outcome
  crunched : Points → Tally → Outcome

-- ---- the end: refusal 9 last, counted before implied points are dropped

module _ (closed : Bool) where
  abbrev pub over_if : Bool → Points → Tally → Outcome
  over_if true ps tally = refused OutputTooShort
  over_if false ps tally = crunched (finished closed ps) tally

  abbrev pub points_out : ℕ → Points → Tally → Outcome
  points_out room ps tally = over_if (ltb room (length ps)) ps tally

  abbrev pub outcome_of : ℕ → State → Outcome
  outcome_of room (State.refused k) = refused k
  outcome_of room (State.ended ps tally) = points_out room ps tally
  outcome_of room (State.going ps tally) = points_out room ps tally

-- ---- the whole: refusals 1 to 5, and then 16, first

abbrev pub after_judging : Result Unit Refusal → Outcome → Outcome
after_judging (Err k) o = refused k
after_judging (Ok _) o = o

-- with a room for so many points
unfoldable pub crunch_of : Rooms → ℕ → Settings → List ℤ → List ℤ → List ℕ → Outcome
crunch_of rooms room settings xs ys fs =
    after_judging (judged_for settings xs ys fs) (outcome_of settings.closed room (crunch_runs rooms settings xs ys fs))
