-- The 40 stages against the ten steps: where something is seen at all the sum of the terms is the error, and the first refused one ends the
-- steps. Assumes nothing.
use Prim.Native.Nat.{ℕ, zero, suc, ◌+◌, ◌*◌, ◌/◌, ◌%◌, ◌≤◌, ◌<◌}
use mathlib.Core.Path.{◌≡◌, sym, ◌∙◌}
use mathlib.Core.List.{List, [], ◌∷◌}
use native.Mathlib.Numerals.{add-one}
use native.Mathlib.Omega.{arith}
use borrow.Author.Count.{below_more}
use lib.ListN.{length, set, get_or}
use lib.Seq.{get_or-set_same, get_or-set_other}
use lib.Ieee.{Float, nan}
use Rattle.arclen.specs.Rk4.{rk4}
use Rattle.arclen.specs.Arclen.{tenth}
use Rattle.arclen.specs.declared.ArclenFunctor.{ArclenFunctor}
use Rattle.quickarclen.specs.Stages.{time_at, length_at, stage_of, Written}
use Rattle.arclen.proofs.Laws.{ends}
use Rattle.quickarclen.proofs.Laws.{reach, all_steps, stage_first, stage_next}
use Rattle.quicklookup.specs.Spots.{spot_at}
use Rattle.measure.specs.Measure.{along_samples, apply_of, walked_by}
use Rattle.quickmeasure.specs.Terms.{measured, spot_in, term_in, sums_of, Seen}
use Rattle.quickmeasure.specs.Early.{summed}
use Rattle.measure.specs.declared.MeasureFunctor.{MeasureFunctor}
use Rattle.quickmeasure.proofs.Laws.{term_at, term_last, rate_of, part, step_flat}
use Rattle.measure.specs.declared.Measure.{Measure}
use Rattle.std.specs.Prelude.{Option, Some, None}

pub none : {row : List (List Float)} {m : MeasureFunctor} {stages seen : List (List Float)} → Seen row m stages seen 0
none = record { is = λ j less. absurd (omega arith) }

pub one_more : {row : List (List Float)} {m : MeasureFunctor} {stages seen : List (List Float)} {k : ℕ} (a : List Float) → Seen row m stages seen k →
    k < length seen → spot_at row (along_samples m (get_or (get_or stages k []) 2 nan)) ≡ Some (spot_in a) → Seen row m stages (set seen k a) (k + 1)
one_more {row} {m} {stages} {seen} {k} a all h e =
    record {
      is = below_more _ k (λ j less. rw (get_or-set_other seen k j a [] (λ same. omega arith)) (all.is j less)) (rw (get_or-set_same seen k a [] h) e);
    }

module _ (row : List (List Float)) (m : MeasureFunctor) (stages : List (List Float)) (w : Written m.af stages) (seen : List (List Float)) where
  -- the terms of what is seen
  abbrev g : ℕ → Float
  g = term_in m.af m.q stages seen

  abbrev rate : ℕ → Option Measure
  rate k = rate_of row m (get_or stages k [])

  part_first : (i : ℕ) → i < 10 → part row m i 0 ≡ rate (4 * i)
  part_first i less = rw (w.is (4 * i) (omega arith), stage_first m.af i)

  part_next : (i j : ℕ) → i < 10 → j < 4 → part row m i j ≡ rate (4 * i + j)
  part_next i j less h = rw (w.is (4 * i + j) (omega arith), stage_next m.af i j h)

  -- length and error after i steps
  abbrev after : ℕ → List Float
  after i = length_at m.af i ∷ sums_of g i ∷ []

  module _ (k : ℕ) (within : k ≤ 40) (all : Seen row m stages seen k) where
    got : (j : ℕ) → j < k → rate j ≡ measured (g j)
    got j less = term_at row m _ _ _ _ (all.is j less)

    got_first : (i : ℕ) → 4 * i < k → part row m i 0 ≡ measured (g (4 * i))
    got_first i h = part_first i (omega arith) ∙ got (4 * i) h

    got_next : (i j : ℕ) → j < 4 → 4 * i + j < k → part row m i j ≡ measured (g (4 * i + j))
    got_next i j less h = part_next i j (omega arith) less ∙ got (4 * i + j) h

    step_done : (i : ℕ) → 4 * i + 3 < k → rk4 (apply_of row m) tenth (time_at tenth i) (after i) ≡ Some (after (suc i))
    unfolding sums_of summed
    step_done i h =
        step_flat row m i (sums_of g i)
        ∙ rw (
          got_first i (omega arith),
          got_next i 1 (omega arith) (omega arith),
          got_next i 2 (omega arith) (omega arith),
          got_next i 3 (omega arith) h,
        )

    -- the term k is refused, that of the stage j of the step i
    refused_at : (i j : ℕ) → j < 4 → k ≡ 4 * i + j → i < 10 → rate k ≡ None → part row m i j ≡ None
    refused_at i j h p less e = part_next i j less h ∙ rw (sym p) e

    step_refused : (i j : ℕ) → j < 4 → k ≡ 4 * i + j → i < 10 → rate k ≡ None →
        summed tenth (sums_of g i) (part row m i 0) (part row m i 1) (part row m i 2) (part row m i 3) ≡ None
    unfolding summed
    step_refused i zero h p less e =
        let here : 4 * i ≡ k = omega arith in
        let last : part row m i 0 ≡ None = part_first i less ∙ rw here e in
        rw last
    step_refused i (suc zero) h p less e = rw (got_first i (omega arith), refused_at i 1 h p less e)
    step_refused i (suc (suc zero)) h p less e =
        rw (got_first i (omega arith), got_next i 1 (omega arith) (omega arith), refused_at i 2 h p less e)
    step_refused i (suc (suc (suc zero))) h p less e =
        rw (
          got_first i (omega arith),
          got_next i 1 (omega arith) (omega arith),
          got_next i 2 (omega arith) (omega arith),
          refused_at i 3 h p less e,
        )
    step_refused i (suc (suc (suc (suc j)))) h p less e = absurd (omega arith)

    -- the lookup k is refused
    pub broken : k < 40 → spot_at row (along_samples m (get_or (get_or stages k []) 2 nan)) ≡ None → None ≡ walked_by row m
    unfolding walked_by length_at sums_of
    broken less e =
        sym (rw (reach (apply_of row m) tenth 10 after (k / 4) (omega arith) (λ n h. step_done n (omega arith))
        ∙ ends (apply_of row m) tenth (time_at tenth (k / 4)) (after (k / 4)) 10 (k / 4) (omega arith)
        (step_flat row m (k / 4) (sums_of g (k / 4)) ∙ rw (step_refused (k / 4) (k % 4) (omega arith) (omega arith) (omega arith) (term_last row m _ _ _ e)))))

  -- all is seen
  pub whole : Seen row m stages seen 40 → measured (sums_of g 10) ≡ walked_by row m
  unfolding walked_by length_at sums_of
  whole all = sym (rw (all_steps (apply_of row m) tenth 10 after (λ n h. step_done 40 (omega arith) all n (omega arith))))

-- the times of the stages of the step i: the middle ones have one, and the last is the time of the next step
module _ (f : ArclenFunctor) (stages : List (List Float)) (w : Written f stages) (i : ℕ) (less : i < 10) where
  abbrev time : ℕ → Float
  time k = get_or (get_or stages k []) 0 nan

  pub starts : time_at tenth i ≡ time (4 * i)
  unfolding stage_of
  starts = sym (rw (w.is (4 * i) (omega arith), stage_first f i))

  pub middles : time (4 * i + 1) ≡ time (4 * i + 2)
  unfolding stage_of
  middles = rw (w.is (4 * i + 1) (omega arith), w.is (4 * i + 2) (omega arith), stage_next f i 1 (omega arith), stage_next f i 2 (omega arith))

  pub follows : time (4 * i + 3) ≡ time_at tenth (i + 1)
  unfolding stage_of time_at
  follows = rw (w.is (4 * i + 3) (omega arith), stage_next f i 3 (omega arith), add-one i)
