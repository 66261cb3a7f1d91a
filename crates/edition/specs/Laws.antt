-- Laws for callers: the work on a run that is solved is the optimiser's for the run's survey, and how many pairs it tries; longer rows change no result
-- but one refused 6 or 7. Assumes nothing.
use Rattle.std.specs.Prelude.{ℕ, ◌≤◌, Bool, List, ◌≡◌, ltb, Float, ℤ, Result, Ok, Err}
use Rattle.std.proofs.Common.{arith, sym, ◌∙◌}
use Rattle.std.proofs.Math.Bool.{true, false}
use Rattle.std.proofs.Math.Path.{refl, ap}
use borrow.Author.Tests.{ltb-false, le-ltb}
use Rattle.std.proofs.Math.ListN.{length}
use Rattle.refusals.specs.declared.refusal.Refusal.TheVariants.{TooManySamples, TooManyBreaks}
use Rattle.refusals.specs.declared.refusal.Refusal.{Refusal}
use Rattle.breaks.specs.Breaks.{Row}
use Rattle.breaks.specs.declared.Grid.{Grid}
pub use Rattle.rows.specs.Scratch.{same_cleared, cleared_work}
use Rattle.samples.specs.Samples.{Sample}
use Rattle.attempt.specs.Answers.{Statelet}
use Rattle.optimize.specs.Laws.{pairs_few, pairs_few_unchanged}
use Rattle.optimize.specs.Fallen.{most_fallen, Upto, nothing_upto}
use Rattle.optimize.proofs.FewFall.{few_fall}
use Rattle.optimize.specs.Optimize.{Optimised, measure_by, optimize_of}
use Rattle.optimize.specs.Optimize as O
use Rattle.survey.specs.Laws.{survey_same}
pub use Rattle.survey.specs.Laws.{surveyed_found, found_rows, in_row}
use Rattle.survey.specs.Survey.{Survey, survey_of}
use Rattle.optimize.specs.Tally.{untried}
use Rattle.optimize.specs.declared.Tally.{Tally}
use Rattle.edition.specs.Edition.{RunOutcome, refused, unchanged, solved, answer_room, result_of, fell_in, unless_short, edition_of}
use Rattle.edition.specs.Edition.{after_survey, Rooms, work_of, FoundBreaks, Works, no, stays, holds}
use Rattle.edition.specs.declared.Worked as W
use Rattle.edition.specs.declared.Worked.TheVariants as Worked

-- ---- a solved run

-- the answer is the optimiser's for the survey, and the answer rows had room for its breaks
pub record Optimal (rooms : Rooms) (g : Grid) (penalty : Float) (xs ys : List ℤ) (fs : List ℕ) (first count : ℕ) (a : Statelet) (t : Tally) : Type 0 where
  pub samples : List Sample
  pub breaks : Row
  pub survey : survey_of rooms.samples rooms.breaks xs ys fs first count g ≡ Survey.surveyed samples breaks
  pub room : length breaks ≤ answer_room rooms.answers rooms.links
  pub is : optimize_of (measure_by samples breaks) breaks penalty ≡ O.solved a t.pairs
  pub fell : t.fallen ≡ fell_in samples breaks penalty
  pub fine : FoundBreaks breaks

-- no two kinds of result are one
abbrev is_solved : RunOutcome → ℕ
is_solved (refused k) = 0
is_solved (unchanged t) = 0
is_solved (solved a t) = 1

abbrev pub tally_of : RunOutcome → Tally
tally_of (refused k) = untried
tally_of (unchanged t) = t
tally_of (solved a t) = t

-- the answer and the counts
solved_is : (c : ℕ) (o : Optimised) {a : Statelet} {t : Tally} → result_of c o ≡ solved a t → (o ≡ O.solved a t.pairs) × (t.fallen ≡ c)
solved_is c O.refused8 e = absurd (omega (arith, ap is_solved e))
solved_is c (O.unchanged q) e = absurd (omega (arith, ap is_solved e))
solved_is c (O.solved b q) {a} {t} e =
    let same : b ≡ a = cc in
    (rw (same, ← ap tally_of e) refl, sym (ap (λ (t : Tally). t.fallen) (ap tally_of e)))

module _ (rooms : Rooms) (g : Grid) (penalty : Float) (xs ys : List ℤ) (fs : List ℕ) (first count : ℕ) (a : Statelet) (t : Tally) where
  abbrev Solved : Type 0
  Solved = Optimal rooms g penalty xs ys fs first count a t

  tested_solved : (samples : List Sample) (breaks : Row) → survey_of rooms.samples rooms.breaks xs ys fs first count g ≡ Survey.surveyed samples breaks →
      (short : Bool) → ltb (answer_room rooms.answers rooms.links) (length breaks) ≡ short →
      unless_short short (result_of (fell_in samples breaks penalty) (optimize_of (measure_by samples breaks) breaks penalty)) ≡ solved a t → Solved
  tested_solved samples breaks s true k e = absurd (omega (arith, ap is_solved e))
  tested_solved samples breaks s false k e = record {
    samples = samples;
    breaks = breaks;
    survey = s;
    room = ltb-false (answer_room rooms.answers rooms.links) (length breaks) k;
    is = (solved_is (fell_in samples breaks penalty) _ e).0;
    fell = (solved_is (fell_in samples breaks penalty) (optimize_of (measure_by samples breaks) breaks penalty) e).1;
    fine = surveyed_found rooms.samples rooms.breaks xs ys fs first count g samples breaks s;
  }

  after_solved : (s : Survey) → survey_of rooms.samples rooms.breaks xs ys fs first count g ≡ s →
      after_survey rooms.answers rooms.links penalty s ≡ solved a t → Solved
  unfolding edition_of
  after_solved (Survey.refused k) s e = absurd (omega (arith, ap is_solved e))
  after_solved Survey.past s e = absurd (omega (arith, ap is_solved e))
  after_solved (Survey.surveyed samples breaks) s e = tested_solved samples breaks s _ refl e

  pub work_solved : work_of rooms g penalty xs ys fs first count ≡ solved a t → Solved
  unfolding work_of
  work_solved e = after_solved _ refl e

-- ---- what a run counts

-- none of a refused run
abbrev pub tally_in : Result W.Worked Refusal → Tally
tally_in (Err k) = untried
tally_in (Ok (Worked.Unchanged t)) = t
tally_in (Ok (Worked.Done n k t)) = t

module _ (samples : List Sample) (breaks : Row) (penalty : Float) (fine : FoundBreaks breaks) where
  abbrev fell : ℕ
  fell = fell_in samples breaks penalty

  fell_few : fell ≤ most_fallen
  fell_few = few_fall samples breaks penalty fine.few

  optimised_few : (o : Optimised) → optimize_of (measure_by samples breaks) breaks penalty ≡ o → Upto 1 (tally_of (result_of fell o))
  optimised_few O.refused8 e = nothing_upto 1
  optimised_few (O.unchanged p) e =
      record { pairs_in = omega (arith, pairs_few_unchanged (measure_by samples breaks) breaks penalty fine.few e); fallen_in = omega (arith, fell_few) }
  optimised_few (O.solved a p) e =
      record { pairs_in = omega (arith, pairs_few (measure_by samples breaks) breaks penalty fine.few e); fallen_in = omega (arith, fell_few) }

  tested_few : (short : Bool) → Upto 1 (tally_of (unless_short short (result_of fell (optimize_of (measure_by samples breaks) breaks penalty))))
  tested_few true = nothing_upto 1
  tested_few false = optimised_few _ refl

  pub edition_few : (answers links : ℕ) → Upto 1 (tally_of (edition_of answers links samples breaks penalty))
  unfolding edition_of
  edition_few answers links = tested_few (ltb (answer_room answers links) (length breaks))

pub works_tally : {penalty : Float} {breaks : Row} {answers : List (List Float)} {links : List ℕ} {x : RunOutcome} {r : Result W.Worked Refusal} →
    Works penalty breaks answers links x r → tally_of x ≡ tally_in r
works_tally (no e) = sym (ap tally_in e)
works_tally (stays e) = sym (ap tally_in e)
works_tally (holds samples e few fine is held) = sym (ap tally_in e)

-- what the answer of the work says of its result
module _ {penalty : Float} {breaks : Row} {answers : List (List Float)} {links : List ℕ} where
  pub works_refused : {x : RunOutcome} {r : Result W.Worked Refusal} {k : Refusal} → Works penalty breaks answers links x r → r ≡ Err k → x ≡ refused k
  works_refused (no e) h = cc
  works_refused (stays e) h = absurd cc
  works_refused (holds samples e few fine is held) h = absurd cc

  pub works_unchanged : {x : RunOutcome} {r : Result W.Worked Refusal} {t : Tally} → Works penalty breaks answers links x r → r ≡ Ok (Worked.Unchanged t) → x ≡ unchanged t
  works_unchanged (no e) h = absurd cc
  works_unchanged (stays e) h = cc
  works_unchanged (holds samples e few fine is held) h = absurd cc

-- ---- longer rows

-- each row is at most as long as the other's
pub record Within (rooms rooms' : Rooms) : Type 0 where
  pub samples : rooms.samples ≤ rooms'.samples
  pub breaks : rooms.breaks ≤ rooms'.breaks
  pub answers : rooms.answers ≤ rooms'.answers
  pub links : rooms.links ≤ rooms'.links

module _ (rooms rooms' : Rooms) (h : Within rooms rooms') (g : Grid) (penalty : Float) where
  edition_same : (samples : List Sample) (breaks : Row) (short : Bool) → ltb (answer_room rooms.answers rooms.links) (length breaks) ≡ short →
      let r = result_of (fell_in samples breaks penalty) (optimize_of (measure_by samples breaks) breaks penalty) in
      (unless_short short r ≡ refused TooManyBreaks → ⊥) → edition_of rooms'.answers rooms'.links samples breaks penalty ≡ unless_short short r
  unfolding edition_of
  edition_same samples breaks true e seven = absurd (seven refl)
  edition_same samples breaks false e seven =
      let few : length breaks ≤ answer_room rooms.answers rooms.links = ltb-false (answer_room rooms.answers rooms.links) (length breaks) e in
      rw (le-ltb (answer_room rooms'.answers rooms'.links) (length breaks) (omega arith)) refl

  after_same : (s : Survey) → (after_survey rooms.answers rooms.links penalty s ≡ refused TooManyBreaks → ⊥) →
      after_survey rooms'.answers rooms'.links penalty s ≡ after_survey rooms.answers rooms.links penalty s
  unfolding edition_of
  after_same (Survey.refused k) seven = refl
  after_same Survey.past seven = refl
  after_same (Survey.surveyed samples breaks) seven = edition_same samples breaks _ refl seven

  -- the work on a run
  pub work_same : (xs ys : List ℤ) (fs : List ℕ) (first count : ℕ) →
      (work_of rooms g penalty xs ys fs first count ≡ refused TooManySamples → ⊥) → (work_of rooms g penalty xs ys fs first count ≡ refused TooManyBreaks → ⊥) →
      work_of rooms' g penalty xs ys fs first count ≡ work_of rooms g penalty xs ys fs first count
  unfolding work_of
  work_same xs ys fs first count six seven =
      let after = after_survey rooms.answers rooms.links penalty in
      ap (after_survey rooms'.answers rooms'.links penalty)
      (survey_same rooms.samples rooms.breaks rooms'.samples rooms'.breaks h.samples h.breaks xs ys fs first count g
      (λ e. six (ap after e)) (λ e. seven (ap after e)))
      ∙ after_same (survey_of rooms.samples rooms.breaks xs ys fs first count g) seven
