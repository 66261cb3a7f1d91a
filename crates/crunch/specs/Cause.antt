-- A contour is left unchanged, in the crate's mode, for one cause: a worked run has no answer at its last break after its first pair, and no run before it
-- is refused. The theorems, `ends_unchanged`, `comes_out` and `one_cause`, stand in proofs/Cause.antt. Definitions only.
use Rattle.std.specs.Prelude.{ℕ, false, List, ◌∷◌, ◌↔◌, ◌≡◌, ℤ, Some, Ok}
use Rattle.refusals.specs.declared.refusal.Refusal.{Refusal}
use Rattle.settings.specs.Settings.{grid_of, penalty_of, judged_for}
use Rattle.settings.specs.declared.Settings.{Settings}
use Rattle.contour.specs.Points.{Points}
use Rattle.runs.specs.Runs.{runs_of, is_copied}
use Rattle.runs.specs.declared.Run.{Run}
use Rattle.optimize.specs.declared.Tally.{Tally}
use Rattle.edition.specs.Causes.{Unanswered}
use Rattle.edition.specs.Edition.{Rooms}
use Rattle.edition.specs.Edition as Edition
use Rattle.survey.specs.Never.{Sixteen}
use Rattle.assembly.specs.Assembly.{ended, itself, result_of, crunch_runs}
use Rattle.crunch.specs.Crunch.{points_out, crunch_of}

module _ (rooms : Rooms) (settings : Settings) (xs ys : List ℤ) (fs : List ℕ) where
  -- a run that is not one copied line is worked
  abbrev pub Worked : Run → Type 0
  Worked r = is_copied xs ys fs (Some r) ≡ false

  abbrev pub Refused : Run → Type 0
  Refused r = Worked r × ((k : Refusal) × (result_of rooms settings xs ys fs r ≡ Edition.refused k))

  abbrev pub Stops : Run → Type 0
  Stops r = Unanswered rooms (grid_of settings) (penalty_of settings) xs ys fs r.first r.count

  -- one of the runs is worked and unanswered, and none before it is refused
  pub data Stuck : List Run → Type 0 where
    here : {r : Run} {rs : List Run} → Worked r → Stops r → Stuck (r ∷ rs)
    later : {r : Run} {rs : List Run} → (Refused r → ⊥) → Stuck rs → Stuck (r ∷ rs)

  -- the work ends with the contour itself, after so many pairs
  abbrev pub LeftUnchanged : Tally → Type 0
  LeftUnchanged tally = crunch_runs rooms settings xs ys fs ≡ ended (itself rooms settings xs ys fs) tally

  -- work that ends with any points ends with these, and they are what comes of a contour that is not refused 1 to 5
  abbrev pub EndsUnchanged : Type 0
  EndsUnchanged = (ps : Points) (tally : Tally) → crunch_runs rooms settings xs ys fs ≡ ended ps tally → LeftUnchanged tally

  abbrev pub ComesOut : Type 0
  ComesOut =
      (room : ℕ) (tally : Tally) → judged_for settings xs ys fs ≡ Ok tt → LeftUnchanged tally →
      crunch_of rooms room settings xs ys fs ≡ points_out settings.closed room (itself rooms settings xs ys fs) tally

  -- in the crate's mode
  abbrev pub OneCause : Type 0
  OneCause = settings.closed ≡ false → Sixteen xs → Sixteen ys → ((tally : Tally) × LeftUnchanged tally) ↔ Stuck (runs_of false xs ys fs)
