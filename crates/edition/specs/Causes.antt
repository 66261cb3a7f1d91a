-- Each result of the work on a run of a contour in 16 bits has one cause. The theorems, `causes`, `seven_exactly`, `eight_exactly` and
-- `unchanged_exactly`, stand in proofs/Causes.antt. Definitions only.
use Rattle.std.specs.Prelude.{ℕ, min, ◌≤◌, ◌<◌, List, ◌↔◌, ◌≡◌, Float, ℤ, length}
use Rattle.refusals.specs.declared.refusal.Refusal.TheVariants.{TooManySamples, TooManyBreaks, PastLastSample}
use Rattle.breaks.specs.Breaks.{Row}
use Rattle.breaks.specs.Breaks as Breaks
use Rattle.breaks.specs.declared.Grid.{Grid}
use Rattle.samples.specs.Samples.{Sample, thetas_of, quads_of}
use Rattle.samples.specs.Samples as Samples
use Rattle.attempt.specs.Answers.{Statelet}
use Rattle.optimize.specs.Optimize.{Optimised, measure_by, optimize_of}
use Rattle.optimize.specs.Optimize as O
use Rattle.optimize.specs.Unchanged.{NoAnswer}
use Rattle.survey.specs.Survey.{sample_room, break_room}
use Rattle.survey.specs.Never.{Sixteen, all_breaks}
use Rattle.optimize.specs.Tally.{tally}
use Rattle.optimize.specs.declared.Tally.{Tally}
use Rattle.edition.specs.Edition.{RunOutcome, refused, unchanged, solved, answer_room, fell_in, Rooms, work_of}

module _ (rooms : Rooms) (g : Grid) (xs ys : List ℤ) (fs : List ℕ) (first count : ℕ) where
  -- a run that is sampled, not given 6, and all its breaks
  pub record SampledRun : Type 0 where
    pub samples : List Sample
    pub len : Float
    pub row : Row
    pub sampled : thetas_of (sample_room rooms.samples) (quads_of xs ys fs first count) ≡ Samples.sampled samples len
    pub all : all_breaks samples g len ≡ Breaks.breaks row

-- the least of 2,048, the break row and half the answer rows
abbrev pub least_room : Rooms → ℕ
least_room rooms = min (break_room rooms.breaks) (answer_room rooms.answers rooms.links)

module _ (rooms : Rooms) (g : Grid) (penalty : Float) (xs ys : List ℤ) (fs : List ℕ) (first count : ℕ) where
  abbrev pub optimised : SampledRun rooms g xs ys fs first count → Optimised
  optimised r = optimize_of (measure_by r.samples r.row) r.row penalty

  abbrev pub fell : SampledRun rooms g xs ys fs first count → ℕ
  fell r = fell_in r.samples r.row penalty

  -- the breaks are no more than the least room, and after the first pair no answer stands at the last of them
  pub record Unanswered : Type 0 where
    pub run : SampledRun rooms g xs ys fs first count
    pub fits : length run.row ≤ least_room rooms
    pub nothing : NoAnswer (measure_by run.samples run.row) run.row penalty

  pub data Cause : RunOutcome → Type 0 where
    long : thetas_of (sample_room rooms.samples) (quads_of xs ys fs first count) ≡ Samples.refused → Cause (refused TooManySamples)
    many : (r : SampledRun rooms g xs ys fs first count) → least_room rooms < length r.row → Cause (refused TooManyBreaks)
    measuring : (r : SampledRun rooms g xs ys fs first count) → length r.row ≤ least_room rooms → optimised r ≡ O.refused8 → Cause (refused PastLastSample)
    unanswered : (u : Unanswered) → Cause (unchanged (tally 1 (fell u.run)))
    answered : (r : SampledRun rooms g xs ys fs first count) → length r.row ≤ least_room rooms → (a : Statelet) (pairs : ℕ) → optimised r ≡ O.solved a pairs →
        Cause (solved a (tally pairs (fell r)))

  -- no answer after one pair, and the lookups that fell in it
  pub record Left (t : Tally) : Type 0 where
    pub cause : Unanswered
    pub is : t ≡ tally 1 (fell cause.run)

  -- of a contour in 16 bits
  abbrev pub In16 : Type 0 → Type 0
  In16 A = Sixteen xs → Sixteen ys → A

  abbrev pub HasCause : Type 0
  HasCause = In16 (Cause (work_of rooms g penalty xs ys fs first count))

  -- 7 exactly where the breaks are more than the least of the three rooms
  abbrev pub SevenExactly : Type 0
  SevenExactly =
      In16 ((r : SampledRun rooms g xs ys fs first count) →
      (work_of rooms g penalty xs ys fs first count ≡ refused TooManyBreaks) ↔ (least_room rooms < length r.row))

  -- 8 only in measuring
  abbrev pub EightExactly : Type 0
  EightExactly =
      In16 ((r : SampledRun rooms g xs ys fs first count) →
      (work_of rooms g penalty xs ys fs first count ≡ refused PastLastSample) ↔ ((length r.row ≤ least_room rooms) × (optimised r ≡ O.refused8)))

  -- no change: no answer at the last break after the first pair
  abbrev pub UnchangedExactly : Type 0
  UnchangedExactly = In16 ((t : Tally) → (work_of rooms g penalty xs ys fs first count ≡ unchanged t) ↔ Left t)
