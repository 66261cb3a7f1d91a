-- The work on one run: the survey, then the edition, which tests half the answer rows and optimises. Definitions only.
use Rattle.std.specs.Prelude.{ℕ, ◌≤◌, Bool, true, false, List, ◌≡◌, ltb, Float, ℤ, length, take, Result, Ok, Err}
use Rattle.refusals.specs.declared.refusal.Refusal.TheVariants.{TooManyBreaks, PastLastSample}
use Rattle.refusals.specs.declared.refusal.Refusal.{Refusal}
pub use Rattle.rows.specs.Scratch.{Rooms, answer_room}
use Rattle.breaks.specs.Breaks.{Row}
use Rattle.breaks.specs.declared.Grid.{Grid}
use Rattle.samples.specs.Samples.{Sample}
use Rattle.attempt.specs.Answers.{Statelet}
use Rattle.optimize.specs.Optimize.{Optimised, measure_by, optimize_of}
use Rattle.optimize.specs.Optimize as O
use Rattle.optimize.specs.Fallen.{fallen_between, fell_of}
use Rattle.optimize.specs.Stored.{Anywhere, Holds}
use Rattle.optimize.specs.Tally.{tally, untried}
use Rattle.optimize.specs.declared.Tally.{Tally}
use Rattle.survey.specs.Survey.{Survey, survey_of}
pub use Rattle.survey.specs.Laws.{FoundBreaks}
use Rattle.edition.specs.declared.Worked as W
use Rattle.edition.specs.declared.Worked.TheVariants as Worked

-- what becomes of a run: a refusal; no answer at the last break; or the answer. With the pairs tried and the lookups that fell in them
pub data RunOutcome : Type 0 where
  refused : Refusal → RunOutcome
  unchanged : Tally → RunOutcome
  solved : Statelet → Tally → RunOutcome

abbrev pub result_of : ℕ → Optimised → RunOutcome
result_of fell O.refused8 = refused PastLastSample
result_of fell (O.unchanged p) = unchanged (tally p fell)
result_of fell (O.solved a p) = solved a (tally p fell)

-- how many lookups fell in a surveyed run
abbrev pub fell_in : List Sample → Row → Float → ℕ
fell_in samples breaks penalty = fell_of (measure_by samples breaks) (fallen_between samples breaks) breaks penalty

abbrev pub unless_short : Bool → RunOutcome → RunOutcome
unless_short true r = refused TooManyBreaks
unless_short false r = r

-- an edition of a surveyed run, with so many places in the answer rows
unfoldable pub edition_of : ℕ → ℕ → List Sample → Row → Float → RunOutcome
edition_of answers links samples breaks penalty =
    unless_short (ltb (answer_room answers links) (length breaks))
    (result_of (fell_in samples breaks penalty) (optimize_of (measure_by samples breaks) breaks penalty))

abbrev pub after_survey : ℕ → ℕ → Float → Survey → RunOutcome
after_survey answers links penalty (Survey.refused k) = refused k
after_survey answers links penalty Survey.past = unchanged untried
after_survey answers links penalty (Survey.surveyed samples breaks) = edition_of answers links samples breaks penalty

-- the run of `count` segments from segment `first` on
unfoldable pub work_of : Rooms → Grid → Float → List ℤ → List ℤ → List ℕ → ℕ → ℕ → RunOutcome
work_of rooms g penalty xs ys fs first count =
    after_survey rooms.answers rooms.links penalty (survey_of rooms.samples rooms.breaks xs ys fs first count g)

-- ---- what the functions leave in the rows

-- the breaks are the first n of their row, and the answer is the optimiser's for them
pub data Works (penalty : Float) (breaks : Row) (answers : List (List Float)) (links : List ℕ) : RunOutcome → Result W.Worked Refusal → Type 0 where
  no : {r : Result W.Worked Refusal} {k : Refusal} → r ≡ Err k → Works penalty breaks answers links (refused k) r
  stays : {r : Result W.Worked Refusal} {t : Tally} → r ≡ Ok (Worked.Unchanged t) → Works penalty breaks answers links (unchanged t) r
  holds : {r : Result W.Worked Refusal} {n k p c : ℕ} {a : Statelet} (samples : List Sample) → r ≡ Ok (Worked.Done n k (tally p c)) → n ≤ length breaks →
      FoundBreaks (take n breaks) → optimize_of (measure_by samples (take n breaks)) (take n breaks) penalty ≡ O.solved a p →
      Holds Anywhere (take n breaks) answers links k a →
      Works penalty breaks answers links (solved a (tally p c)) r
