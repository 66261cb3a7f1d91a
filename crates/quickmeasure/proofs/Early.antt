-- The steps of a measure that may stop early: the error so far, and what it says of the whole. Assumes nothing.
use Prim.Native.Nat.{ℕ, suc, ◌+◌, ◌*◌, ◌-◌, ◌≤◌, ◌<◌}
use mathlib.Core.Bool.{Bool, true, false}
use mathlib.Core.Path.{◌≡◌, refl, sym, ap, ◌∙◌}
use mathlib.Core.List.{List, [], ◌∷◌}
use native.Mathlib.Numerals.{add-one}
use native.Mathlib.Omega.{arith}
use lib.ListN.{get_or}
use lib.Ieee.{Float, nan, binary64, add, lt}
use Rattle.float.specs.Numbers.{nought}
use Rattle.arclen.specs.Rk4.{walk, rk4}
use Rattle.arclen.specs.Arclen.{tenth}
use Rattle.quickarclen.specs.Stages.{time_at, length_at, Written}
use Rattle.arclen.proofs.Laws.{goes, ends, done}
use Rattle.quickarclen.proofs.Laws.{stage_first, stage_next}
use Rattle.measure.specs.Measure.{apply_of, error_in, walked_by}
use Rattle.quickmeasure.specs.Terms.{measured, term_of, node_of, term_in, sums_of}
use Rattle.measure.specs.Fallen.{fallen_by}
use Rattle.quickmeasure.specs.Early.{step_by, summed, Shown, Sealed, Beyond}
use Rattle.measure.specs.declared.MeasureFunctor.{MeasureFunctor}
use Rattle.quickmeasure.specs.declared.Node.{Node}
use Rattle.quickmeasure.proofs.Laws.{term_at, paired, rate_of, step_flat}
use Rattle.quickmeasure.proofs.Stored.{whole, starts, middles}
use Rattle.quickmeasure.proofs.Asked.{counted}
use Rattle.quickmeasure.proofs.Signs.{term_plus}
use Rattle.quickmeasure.proofs.Climb.{above_plus, sums_climb}
use Rattle.measure.specs.declared.Measure.{Measure}
use Rattle.std.specs.Prelude.{Option, Some, None}

abbrev errors_in : Option Measure → Float
errors_in (Some m) = m.error
errors_in None = nan

module _ (row : List (List Float)) (m : MeasureFunctor) (stages : List (List Float)) where
  abbrev rate : ℕ → Option Measure
  rate k = rate_of row m (get_or stages k [])

  -- the step i, from its four stages
  abbrev pub fourth : ℕ → Float → Option Measure
  fourth i e = summed tenth e (rate (4 * i)) (rate (4 * i + 1)) (rate (4 * i + 2)) (rate (4 * i + 3))

  -- after i steps the error is e
  pub record Going (i : ℕ) (e : Float) : Type 0 where
    pub walks : walked_by row m ≡ error_in (walk (apply_of row m) tenth (10 - i) (time_at tenth i) (length_at m.af i ∷ e ∷ []))
    pub sums : (g : ℕ → Float) → ((j : ℕ) → j < 40 → rate j ≡ measured (g j)) → e ≡ sums_of g i

  pub start : Going 0 nought
  unfolding walked_by length_at time_at sums_of
  start = record { walks = refl; sums = λ g all. refl }

  module _ (w : Written m.af stages) where
    flat : (i : ℕ) (e : Float) → i < 10 → rk4 (apply_of row m) tenth (time_at tenth i) (length_at m.af i ∷ e ∷ []) ≡ paired (length_at m.af (suc i)) (fourth i e)
    flat i e less =
        step_flat row m i e
        ∙ rw (
          w.is (4 * i) (omega arith),
          w.is (4 * i + 1) (omega arith),
          w.is (4 * i + 2) (omega arith),
          w.is (4 * i + 3) (omega arith),
          stage_first m.af i,
          stage_next m.af i 1 (omega arith),
          stage_next m.af i 2 (omega arith),
          stage_next m.af i 3 (omega arith),
        )

    next_sum : (i : ℕ) (e e' : Float) → i < 10 → fourth i e ≡ measured e' → (g : ℕ → Float) → ((j : ℕ) → j < 40 → rate j ≡ measured (g j)) → e ≡ sums_of g i → e' ≡ sums_of g (suc i)
    unfolding summed sums_of
    next_sum i e e' less is g all sum =
        let told : fourth i e ≡ measured (sums_of g (suc i)) =
        rw (all (4 * i) (omega arith), all (4 * i + 1) (omega arith), all (4 * i + 2) (omega arith), all (4 * i + 3) (omega arith), sum) in
        ap errors_in (sym is ∙ told)

    further : (i : ℕ) (e e' : Float) → i < 10 → fourth i e ≡ measured e' →
        walk (apply_of row m) tenth (10 - i) (time_at tenth i) (length_at m.af i ∷ e ∷ []) ≡
        walk (apply_of row m) tenth (10 - suc i) (time_at tenth (suc i)) (length_at m.af (suc i) ∷ e' ∷ [])
    unfolding time_at
    further i e e' less is =
        let same : 10 - suc i ≡ 10 - (i + 1) = omega arith in
        rw same (goes (apply_of row m) tenth (time_at tenth i) (length_at m.af i ∷ e ∷ []) 10 i less (flat i e less ∙ rw is))

    pub more : (i : ℕ) (e e' : Float) → i < 10 → Going i e → fourth i e ≡ measured e' → Going (i + 1) e'
    more i e e' less on is =
        rw (add-one i) (record {
          walks = on.walks ∙ ap error_in (further i e e' less is);
          sums = λ g all. next_sum i e e' less is g all (on.sums g all);
        })

    pub lost : (i : ℕ) (e : Float) → i < 10 → Going i e → fourth i e ≡ None → walked_by row m ≡ None
    lost i e less on is =
        on.walks ∙ rw (ends (apply_of row m) tenth (time_at tenth i) (length_at m.af i ∷ e ∷ []) 10 i less (flat i e less ∙ rw is))

    pub all_done : (i : ℕ) (e : Float) → 10 ≤ i → Going i e → walked_by row m ≡ measured e
    all_done i e full on = on.walks ∙ rw (done (apply_of row m) tenth (time_at tenth i) (length_at m.af i ∷ e ∷ []) 10 i full)

    -- all is shown
    module _ (s : Shown row m stages) where
      abbrev pub terms : ℕ → Float
      terms = term_in m.af m.q stages s.seen

      -- where the score with the whole error is less than the limit, so is the one after i steps
      pub falls : (i : ℕ) (base limit : Float) → i ≤ 10 → lt nought base ≡ true →
          lt (add binary64 base (sums_of terms 10)) limit ≡ true → lt (add binary64 base (sums_of terms i)) limit ≡ true
      falls i base limit within above k =
          let split : 10 ≡ i + (10 - i) = omega arith in
          sums_climb terms i (10 - i) limit (λ j less. term_plus m.af m.q stages s.seen w j (omega arith)) (above_plus base above) (rw split at k)

      -- where that makes the score with e less too, which it is not, the whole one is not less
      pub told : (e base limit : Float) → lt (add binary64 base e) limit ≡ false →
          (lt (add binary64 base (sums_of terms 10)) limit ≡ true → lt (add binary64 base e) limit ≡ true) →
          Beyond (walked_by row m) (fallen_by row m) base limit
      told e base limit most less = record { error = sums_of terms 10; is = is; most = go _ refl; none = counted row m stages w _ is ∙ s.none }
        where
          is : walked_by row m ≡ measured (sums_of terms 10)
          is = sym (whole row m stages w s.seen s.all)

          go : (t : Bool) → lt (add binary64 base (sums_of terms 10)) limit ≡ t → t ≡ false
          go true k = sym (less k) ∙ most
          go false k = refl

    -- the score cannot fall any more
    pub over : (i : ℕ) (e base limit : Float) → i ≤ 10 → Going i e → Sealed row m stages base e limit →
        Beyond (walked_by row m) (fallen_by row m) base limit
    over i e base limit within on shut =
        let s = shut.shown in
        let so_far : e ≡ sums_of (terms s) i = on.sums (terms s) (λ j less. term_at row m _ _ _ _ (s.all.is j less)) in
        told s e base limit shut.most (λ k. rw so_far (falls s i base limit within shut.above k))

    -- the step by its nodes
    pub by_nodes : (i : ℕ) (e : Float) (n middle end : Node) → i < 10 → n ≡ node_of m.af m.q (time_at tenth i) →
        middle ≡ node_of m.af m.q (get_or (get_or stages (4 * i + 1) []) 0 nan) → end ≡ node_of m.af m.q (get_or (get_or stages (4 * i + 3) []) 0 nan) →
        step_by row m stages i e n middle end ≡ fourth i e
    unfolding term_of
    by_nodes i e n middle end less p q r = rw (p, q, r, starts m.af stages w i less, middles m.af stages w i less)
