-- How good the chain of a run is: the score that the chain entry reports is the optimiser's, and so the least of the scores of attempts into the run's last
-- break, if the first of them is no NaN. The theorems, `chain_good` and `reports_good`, stand in proofs/Good.antt. Definitions only.
use Rattle.std.specs.Prelude.{ℕ, false, List, ◌≡◌, Float, ℤ, get_or, Some, Ok}
use Rattle.std.specs.Float.{nan}
use Rattle.std.specs.Float.Ieee.{is_nan}
use Rattle.breaks.specs.Breaks.{Row}
use Rattle.settings.specs.Settings.{grid_of, penalty_of}
use Rattle.settings.specs.declared.Settings.{Settings}
use Rattle.chain.specs.declared.Piece.{Piece}
use Rattle.edition.specs.Edition.{Rooms}
use Rattle.edition.specs.Scratch.{rooms_of}
use Rattle.runs.specs.Runs.{numbered_run}
use Rattle.optimize.specs.Optimize.{measure_by}
use Rattle.optimize.specs.declared.Tally.{Tally}
use Rattle.optimize.specs.Trace.{last_scores, Least}
use Rattle.rows.specs.Lent.{inputs}
use Rattle.rows.specs.Rows.{Work}
use Rattle.samples.specs.Samples.{Sample}
use Rattle.survey.specs.Survey.{survey_of, surveyed}
use Rattle.chains.specs.Chains.{chained, chain_of}
use Rattle.chains.specs.Entry.{Rows, answer_of, whole_of}
use Rattle.chains.specs.declared.Chained.TheVariants as Chained

-- of run k: its survey, and the score among those of the attempts
pub record Good (rooms : Rooms) (settings : Settings) (xs ys : List ℤ) (fs : List ℕ) (k : ℕ) (score : Float) : Type 0 where
  pub first : ℕ
  pub count : ℕ
  pub run : numbered_run settings.closed xs ys fs k ≡ Some (record { first = first; count = count })
  pub samples : List Sample
  pub breaks : Row
  pub survey : survey_of rooms.samples rooms.breaks xs ys fs first count (grid_of settings) ≡ surveyed samples breaks
  pub scores : List Float
  pub are : scores ≡ last_scores (measure_by samples breaks) breaks (penalty_of settings)
  pub least : is_nan (get_or scores 0 nan) ≡ false → Least score scores

abbrev pub ChainGood : Type 0
ChainGood =
    (rooms : Rooms) (room : ℕ) (settings : Settings) (xs ys : List ℤ) (fs : List ℕ) (k : ℕ) (ps : List Piece) (score : Float) (tally : Tally) →
    chain_of rooms room settings xs ys fs k ≡ chained ps score tally → Good rooms settings xs ys fs k score

abbrev pub ReportsGood : Type 0
ReportsGood =
    (xs ys : List ℤ) (fs : List ℕ) (settings : Settings) (k : ℕ) (c : Rows) (w : Work) (n : ℕ) (score : Float) (tally : Tally) →
    answer_of (whole_of (inputs xs ys fs) settings k c w) ≡ Ok (Chained.Pieces n score tally) → Good (rooms_of w) settings xs ys fs k score
