-- Ten steps of RK4 by their stages: the length after each, and the four stages of a step. Assumes nothing.
use Prim.Native.Nat.{ℕ, zero, suc, ◌+◌, ◌*◌, ◌/◌, ◌%◌, ◌-◌, ◌≤◌, ◌<◌}
use mathlib.Core.Path.{◌≡◌, ◌∙◌}
use mathlib.Core.List.{List, [], ◌∷◌}
use native.Mathlib.Omega.{arith}
use lib.Ieee.{Float}
use Rattle.float.specs.Numbers.{nought}
use Rattle.geometry.specs.declared.Quad.{Quad}
use Rattle.std.specs.Prelude.{Some}
use Rattle.arclen.specs.Rk4.{Rates, rk4, walk}
use Rattle.arclen.specs.Arclen.{tenth, arclen_functor_of, length_rates, arclen_of}
use Rattle.arclen.specs.declared.ArclenFunctor.{ArclenFunctor}
use Rattle.arclen.proofs.Laws.{goes, done, one_value}
use Rattle.quickarclen.specs.Stages.{time_at, length_at, stage_of, stage_at}

-- n steps from the time 0, by the values z k after k steps
module _ (f : Rates) (h : Float) (n : ℕ) (z : ℕ → List Float) where
  abbrev Reaches : ℕ → Type 0
  Reaches i = (k : ℕ) → k < i → rk4 f h (time_at h k) (z k) ≡ Some (z (suc k))

  pub reach : (i : ℕ) → i ≤ n → Reaches i → walk f h n nought (z 0) ≡ walk f h (n - i) (time_at h i) (z i)
  unfolding time_at
  reach zero le all =
      let all_left : n - 0 ≡ n = omega arith in
      rw all_left
  reach (suc i) le all =
      let same : n - suc i ≡ n - (i + 1) = omega arith in
      reach i (omega arith) (λ k less. all k (omega arith)) ∙ rw same (goes f h (time_at h i) (z i) n i (omega arith) (all i (omega arith)))

  pub all_steps : Reaches n → walk f h n nought (z 0) ≡ Some (z n)
  all_steps all = reach n (omega arith) all ∙ done f h (time_at h n) (z n) n n (omega arith)

-- ten steps give the length
pub length_whole : (q : Quad) (f : ArclenFunctor) (y : Float) → f ≡ arclen_functor_of q → y ≡ length_at f 10 → y ≡ arclen_of q
unfolding arclen_of length_at
length_whole q f y e p =
    p ∙ rw (← e, all_steps (length_rates f) tenth 10 (λ k. length_at f k ∷ []) (λ k less. one_value f tenth (time_at tenth k) (length_at f k)))

-- the stages of the step i
module _ (f : ArclenFunctor) (i : ℕ) where
  pub stage_first : stage_at f (4 * i) ≡ stage_of f tenth (time_at tenth i) (length_at f i) 0
  unfolding stage_at
  stage_first =
      let step : 4 * i / 4 ≡ i = omega arith in
      let part : 4 * i % 4 ≡ 0 = omega arith in
      rw (step, part)

  pub stage_next : (j : ℕ) → j < 4 → stage_at f (4 * i + j) ≡ stage_of f tenth (time_at tenth i) (length_at f i) j
  unfolding stage_at
  stage_next j less =
      let step : (4 * i + j) / 4 ≡ i = omega arith in
      let part : (4 * i + j) % 4 ≡ j = omega arith in
      rw (step, part)
