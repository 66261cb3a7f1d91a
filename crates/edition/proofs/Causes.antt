-- Each result of the work on a run of a contour in 16 bits has one cause. Assumes nothing.
use Prim.Native.Nat.{ℕ, ◌≤◌, ◌<◌}
use mathlib.Core.Bool.{Bool}
use mathlib.Core.List.{List}
use mathlib.Core.Path.{◌≡◌, refl, sym, ap, ◌∙◌, subst}
use native.Mathlib.Decide.{dec_lt}
use native.Mathlib.Omega.{arith}
use borrow.Author.Tests.{lt-ltb, le-ltb}
use lib.Ieee.{Float}
use lib.IntN.{ℤ}
use lib.ListN.{length}
use Rattle.refusals.specs.declared.refusal.Refusal.TheVariants.{TooManyBreaks, PastLastSample}
use Rattle.breaks.specs.Breaks.{Row, breaks_of}
use Rattle.breaks.specs.Breaks as Breaks
use Rattle.breaks.specs.Laws.{found_some}
use Rattle.breaks.specs.declared.Grid.{Grid}
use Rattle.samples.specs.Samples.{thetas_of, quads_of}
use Rattle.samples.specs.Samples as Samples
use Rattle.optimize.specs.Optimize.{Optimised, measure_by}
use Rattle.optimize.specs.Optimize as O
use Rattle.optimize.specs.declared.Tally.{Tally}
use Rattle.optimize.specs.Unchanged.{Ends, refuses, leaves, answers}
use Rattle.optimize.proofs.Unchanged.{ends, unchanged_by}
use Rattle.survey.specs.Survey.{Survey, sample_room, break_room, searched, after_sampling, survey_of}
use Rattle.survey.specs.Never.{Sixteen, Finds}
use Rattle.survey.proofs.Never.{finds_exactly}
use Rattle.edition.specs.Edition.{RunOutcome, refused, unchanged, solved, answer_room, result_of, unless_short, edition_of, after_survey, Rooms, work_of}
use Rattle.edition.specs.Causes.{SampledRun, least_room, optimised, fell, Left, Cause, long, many, measuring, unanswered, answered, HasCause, SevenExactly, EightExactly, UnchangedExactly}

module _ (rooms : Rooms) (g : Grid) (penalty : Float) (xs ys : List ℤ) (fs : List ℕ) (first count : ℕ) (sx : Sixteen xs) (sy : Sixteen ys) where
  abbrev work : RunOutcome
  work = work_of rooms g penalty xs ys fs first count

  abbrev after : Survey → RunOutcome
  after = after_survey rooms.answers rooms.links penalty

  abbrev Runs : Type 0
  Runs = SampledRun rooms g xs ys fs first count

  -- ---- a sampled run

  module _ (r : Runs) where
    sampled_work : work ≡ after (searched r.samples (breaks_of (break_room rooms.breaks) r.samples g r.len))
    unfolding work_of survey_of
    sampled_work = ap (λ (x : Samples.Run). after (after_sampling (break_room rooms.breaks) g x)) r.sampled

    found : Finds (break_room rooms.breaks) r.samples g r.len
    found = finds_exactly rooms.samples (break_room rooms.breaks) xs ys fs first count g r.samples r.len sx sy r.sampled

    same : found.row ≡ r.row
    same = inner (sym found.all ∙ r.all)
      where
        inner : {b c : Row} → Breaks.breaks b ≡ Breaks.breaks c → b ≡ c
        inner e = cc

    some : 0 < length r.row
    some = found_some _ r.samples g r.len r.row r.all

    searched_work : length r.row ≤ break_room rooms.breaks → work ≡ edition_of rooms.answers rooms.links r.samples r.row penalty
    searched_work h =
        let fits = subst (λ (b : Row). length b ≤ break_room rooms.breaks → breaks_of (break_room rooms.breaks) r.samples g r.len ≡ Breaks.breaks b) same found.fits in
        sampled_work ∙ ap (λ (x : Breaks.RunBreaks). after (searched r.samples x)) (fits h)

    short_work : break_room rooms.breaks < length r.row → work ≡ refused TooManyBreaks
    short_work h =
        let more = subst (λ (b : Row). break_room rooms.breaks < length b → breaks_of (break_room rooms.breaks) r.samples g r.len ≡ Breaks.refused TooManyBreaks) same found.short in
        sampled_work ∙ ap (λ (x : Breaks.RunBreaks). after (searched r.samples x)) (more h)

    -- more breaks than a room takes
    many_work : least_room rooms < length r.row → work ≡ refused TooManyBreaks
    unfolding edition_of
    many_work h = by (dec_lt (break_room rooms.breaks) (length r.row))
      where
        by : Dec (break_room rooms.breaks < length r.row) → work ≡ refused TooManyBreaks
        by (yes more) = short_work more
        by (no fits) =
            searched_work (omega arith)
            ∙ ap (λ (t : Bool). unless_short t (result_of (fell rooms g penalty xs ys fs first count r) (optimised rooms g penalty xs ys fs first count r))) (lt-ltb (answer_room rooms.answers rooms.links) (length r.row) (omega arith))

    fits_work : length r.row ≤ least_room rooms → work ≡ result_of (fell rooms g penalty xs ys fs first count r) (optimised rooms g penalty xs ys fs first count r)
    unfolding edition_of
    fits_work h =
        searched_work (omega arith)
        ∙ ap (λ (t : Bool). unless_short t (result_of (fell rooms g penalty xs ys fs first count r) (optimised rooms g penalty xs ys fs first count r))) (le-ltb (answer_room rooms.answers rooms.links) (length r.row) (omega arith))

  -- ---- the cause

  optimised_cause : (r : Runs) → length r.row ≤ least_room rooms → (o : Optimised) → optimised rooms g penalty xs ys fs first count r ≡ o →
      Ends (measure_by r.samples r.row) r.row penalty o → Cause rooms g penalty xs ys fs first count (result_of (fell rooms g penalty xs ys fs first count r) o)
  optimised_cause r fits o e refuses = measuring r fits e
  optimised_cause r fits o e (leaves n) = unanswered (record { run = r; fits = fits; nothing = n })
  optimised_cause r fits o e (answers a p) = answered r fits a p e

  run_cause : (r : Runs) → Cause rooms g penalty xs ys fs first count work
  run_cause r = by (dec_lt (least_room rooms) (length r.row))
    where
      by : Dec (least_room rooms < length r.row) → Cause rooms g penalty xs ys fs first count work
      by (yes more) = rw (many_work r more) (many r more)
      by (no fits) =
          let h : length r.row ≤ least_room rooms = omega arith in
          rw (fits_work r h) (optimised_cause r h _ refl (ends (measure_by r.samples r.row) r.row penalty (some r)))

  has_cause : (x : Samples.Run) → thetas_of (sample_room rooms.samples) (quads_of xs ys fs first count) ≡ x → Cause rooms g penalty xs ys fs first count work
  unfolding work_of survey_of
  has_cause Samples.refused e = rw e (long e)
  has_cause (Samples.sampled samples len) e =
      let f = finds_exactly rooms.samples (break_room rooms.breaks) xs ys fs first count g samples len sx sy e in
      run_cause (record { samples = samples; len = len; row = f.row; sampled = e; all = f.all })

-- ---- no two kinds of result are one

not_seven : (c : ℕ) (o : Optimised) → result_of c o ≡ refused TooManyBreaks → ⊥
not_seven c O.refused8 e = cc
not_seven c (O.unchanged p) e = cc
not_seven c (O.solved a p) e = cc

is_eight : (c : ℕ) (o : Optimised) → result_of c o ≡ refused PastLastSample → o ≡ O.refused8
is_eight c O.refused8 e = refl
is_eight c (O.unchanged p) e = absurd cc
is_eight c (O.solved a p) e = absurd cc

module _ (rooms : Rooms) (g : Grid) (penalty : Float) (xs ys : List ℤ) (fs : List ℕ) (first count : ℕ) where
  pub causes : HasCause rooms g penalty xs ys fs first count
  causes sx sy = has_cause rooms g penalty xs ys fs first count sx sy _ refl

  pub seven_exactly : SevenExactly rooms g penalty xs ys fs first count
  seven_exactly sx sy r = (λ e. by e (dec_lt (least_room rooms) (length r.row)), many_work rooms g penalty xs ys fs first count sx sy r)
    where
      by : work_of rooms g penalty xs ys fs first count ≡ refused TooManyBreaks → Dec (least_room rooms < length r.row) → least_room rooms < length r.row
      by e (yes more) = more
      by e (no fits) = absurd (not_seven _ (optimised rooms g penalty xs ys fs first count r) (sym (fits_work rooms g penalty xs ys fs first count sx sy r (omega arith)) ∙ e))

  pub eight_exactly : EightExactly rooms g penalty xs ys fs first count
  eight_exactly sx sy r = (
    λ e. by e (dec_lt (least_room rooms) (length r.row)),
    λ h. fits_work rooms g penalty xs ys fs first count sx sy r h.0 ∙ ap (result_of (fell rooms g penalty xs ys fs first count r)) h.1,
  )
    where
      by : work_of rooms g penalty xs ys fs first count ≡ refused PastLastSample → Dec (least_room rooms < length r.row) →
          (length r.row ≤ least_room rooms) × (optimised rooms g penalty xs ys fs first count r ≡ O.refused8)
      by e (yes more) =
          let both : refused TooManyBreaks ≡ refused PastLastSample = sym (many_work rooms g penalty xs ys fs first count sx sy r more) ∙ e in
          absurd cc
      by e (no fits) =
          let h : length r.row ≤ least_room rooms = omega arith in
          (h, is_eight _ (optimised rooms g penalty xs ys fs first count r) (sym (fits_work rooms g penalty xs ys fs first count sx sy r h) ∙ e))

  left_cause : {x : RunOutcome} → Cause rooms g penalty xs ys fs first count x → (t : Tally) → x ≡ unchanged t → Left rooms g penalty xs ys fs first count t
  left_cause (long h) t e = absurd cc
  left_cause (many r h) t e = absurd cc
  left_cause (measuring r h o) t e = absurd cc
  left_cause (unanswered u) t e = record { cause = u; is = cc }
  left_cause (answered r h a p o) t e = absurd cc

  pub unchanged_exactly : UnchangedExactly rooms g penalty xs ys fs first count
  unchanged_exactly sx sy t = (
    left_cause (causes sx sy) t,
    λ h.
        let u = h.cause in
        let r = u.run in
        fits_work rooms g penalty xs ys fs first count sx sy r u.fits
        ∙ ap (result_of (fell rooms g penalty xs ys fs first count r)) (unchanged_by (measure_by r.samples r.row) r.row penalty u.nothing)
        ∙ ap unchanged (sym h.is),
  )
