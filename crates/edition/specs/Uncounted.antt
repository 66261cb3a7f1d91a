-- What becomes of a run, without the lookups that fell: as it was defined before these were counted. The statement says that counting changes nothing
-- else. Definitions and a statement.
use Rattle.std.specs.Prelude.{ℕ, Bool, true, false, List, ◌≡◌, ltb, Float, ℤ, length}
use Rattle.refusals.specs.declared.refusal.Refusal.TheVariants.{TooManyBreaks, PastLastSample}
use Rattle.refusals.specs.declared.refusal.Refusal.{Refusal}
use Rattle.breaks.specs.declared.Grid.{Grid}
use Rattle.attempt.specs.Answers.{Statelet}
use Rattle.optimize.specs.Optimize.{Optimised, measure_by, optimize_of}
use Rattle.optimize.specs.Optimize as O
use Rattle.survey.specs.Survey.{Survey, survey_of}
use Rattle.edition.specs.Edition.{answer_room, Rooms}
use Rattle.edition.specs.Edition as Counted

-- a refusal; no answer at the last break, after so many pairs; or the answer and the pairs tried
pub data RunOutcome : Type 0 where
  refused : Refusal → RunOutcome
  unchanged : ℕ → RunOutcome
  solved : Statelet → ℕ → RunOutcome

abbrev pub result_of : Optimised → RunOutcome
result_of O.refused8 = refused PastLastSample
result_of (O.unchanged p) = unchanged p
result_of (O.solved a p) = solved a p

abbrev pub unless_short : Bool → RunOutcome → RunOutcome
unless_short true r = refused TooManyBreaks
unless_short false r = r

abbrev pub after_survey : ℕ → ℕ → Float → Survey → RunOutcome
after_survey answers links penalty (Survey.refused k) = refused k
after_survey answers links penalty Survey.past = unchanged 0
after_survey answers links penalty (Survey.surveyed samples breaks) =
    unless_short (ltb (answer_room answers links) (length breaks)) (result_of (optimize_of (measure_by samples breaks) breaks penalty))

abbrev pub work_of : Rooms → Grid → Float → List ℤ → List ℤ → List ℕ → ℕ → ℕ → RunOutcome
work_of rooms g penalty xs ys fs first count =
    after_survey rooms.answers rooms.links penalty (survey_of rooms.samples rooms.breaks xs ys fs first count g)

-- ---- a result without the number

abbrev pub without : Counted.RunOutcome → RunOutcome
without (Counted.refused k) = refused k
without (Counted.unchanged t) = unchanged t.pairs
without (Counted.solved a t) = solved a t.pairs

abbrev pub CountingChangesNothing : Type 0
CountingChangesNothing =
    (rooms : Rooms) (g : Grid) (penalty : Float) (xs ys : List ℤ) (fs : List ℕ) (first count : ℕ) →
    without (Counted.work_of rooms g penalty xs ys fs first count) ≡ work_of rooms g penalty xs ys fs first count
