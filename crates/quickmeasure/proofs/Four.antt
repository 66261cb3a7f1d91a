-- A step by its four stages, one after the other: the rates known so far, and what they make of the step. Assumes nothing.
use Prim.Native.Nat.{ℕ, zero, suc, ◌+◌, ◌*◌, ◌<◌}
use mathlib.Core.Path.{◌≡◌, ◌∙◌}
use mathlib.Core.List.{List, []}
use native.Mathlib.Omega.{arith}
use borrow.Author.Count.{below_more}
use lib.ListN.{length, get_or, set}
use lib.Seq.{get_or-set_same, get_or-set_other}
use lib.Ieee.{Float, nan}
use Rattle.arclen.specs.Rk4.{grown_by}
use Rattle.arclen.specs.Arclen.{tenth}
use Rattle.quickmeasure.specs.Terms.{measured}
use Rattle.quickmeasure.specs.Early.{node_in, rate_by, summed, step_by}
use Rattle.measure.specs.declared.MeasureFunctor.{MeasureFunctor}
use Rattle.quickmeasure.specs.declared.Node.{Node}
use Rattle.measure.specs.declared.Measure.{Measure}
use Rattle.std.specs.Prelude.{Option, None}

module _ (row : List (List Float)) (m : MeasureFunctor) (stages : List (List Float)) (i : ℕ) (n middle end : Node) where
  abbrev rate_in : ℕ → Option Measure
  rate_in k = rate_by row m (node_in n middle end k) (get_or stages (4 * i + k) [])

  -- the rates of the stages below k are written
  pub record Rated (rates : List Float) (k : ℕ) : Type 0 where
    pub is : (j : ℕ) → j < k → rate_in j ≡ measured (get_or rates j nan)

  pub none_rated : (rates : List Float) → Rated rates 0
  none_rated rates = record { is = λ j less. absurd (omega arith) }

  pub one_rated : (rates : List Float) (k : ℕ) (r : Float) → Rated rates k → k < length rates → rate_in k ≡ measured r → Rated (set rates k r) (k + 1)
  one_rated rates k r all room e =
      record {
        is = below_more _ k (λ j less. rw (get_or-set_other rates k j r nan (λ same. omega arith)) (all.is j less)) (rw (get_or-set_same rates k r nan room) e);
      }

  by_rates : (e : Float) → step_by row m stages i e n middle end ≡ summed tenth e (rate_in 0) (rate_in 1) (rate_in 2) (rate_in 3)
  unfolding node_in
  by_rates e =
      let first : 4 * i + 0 ≡ 4 * i = omega arith in
      rw first

  -- the first that is missing ends it
  ended : (e : Float) (rates : List Float) (k : ℕ) → k < 4 → Rated rates k → rate_in k ≡ None → summed tenth e (rate_in 0) (rate_in 1) (rate_in 2) (rate_in 3) ≡ None
  unfolding summed
  ended e rates zero less all gone = rw gone
  ended e rates (suc zero) less all gone = rw (all.is 0 (omega arith), gone)
  ended e rates (suc (suc zero)) less all gone = rw (all.is 0 (omega arith), all.is 1 (omega arith), gone)
  ended e rates (suc (suc (suc zero))) less all gone = rw (all.is 0 (omega arith), all.is 1 (omega arith), all.is 2 (omega arith), gone)
  ended e rates (suc (suc (suc (suc k)))) less all gone = absurd (omega arith)

  pub step_missing : (e : Float) (rates : List Float) (k : ℕ) → k < 4 → Rated rates k → rate_in k ≡ None → step_by row m stages i e n middle end ≡ None
  step_missing e rates k less all gone = by_rates e ∙ ended e rates k less all gone

  pub step_summed : (e : Float) (rates : List Float) → Rated rates 4 →
      step_by row m stages i e n middle end ≡ measured (grown_by tenth e (get_or rates 0 nan) (get_or rates 1 nan) (get_or rates 2 nan) (get_or rates 3 nan))
  unfolding summed
  step_summed e rates all = by_rates e ∙ rw (all.is 0 (omega arith), all.is 1 (omega arith), all.is 2 (omega arith), all.is 3 (omega arith))
