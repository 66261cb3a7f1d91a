-- The lookups of a measure are those of its 40 stages, place and direction at each. Assumes nothing.
use Prim.Native.Nat.{ℕ, zero, suc, ◌+◌, ◌*◌, ◌≤◌, ◌<◌}
use mathlib.Core.Bool.{Bool, true, false, false≢true}
use mathlib.Core.Path.{◌≡◌, refl, sym, ap, ◌∙◌}
use mathlib.Core.List.{List, [], ◌∷◌}
use native.Mathlib.Omega.{arith}
use lib.ListN.{get_or}
use lib.Ieee.{Float, nan, binary64, add, mul}
use Rattle.float.specs.Numbers.{nought}
use Rattle.arclen.specs.Rk4.{Rates, half_of, moved, rk4, walk}
use Rattle.arclen.specs.Arclen.{tenth, speed_of}
use Rattle.arclen.proofs.Laws.{stops1, stops2, stops3}
use Rattle.quickarclen.specs.Stages.{time_at, length_at, stage_of, Written}
use Rattle.quickarclen.proofs.Laws.{stage_first, stage_next}
use Rattle.measure.specs.Measure.{apply_of, error_in, walked_by}
use Rattle.measure.specs.Fallen.{asked_in, asked_all, fallen_at, fallen_among, fallen_by}
use Rattle.measure.specs.declared.MeasureFunctor.{MeasureFunctor}
use Rattle.measure.specs.declared.Measure as M
use Rattle.measure.proofs.Asked.{among_both, two}
use Rattle.quickmeasure.specs.Terms.{term_of}
use Rattle.quickmeasure.specs.Early.{summed}
use Rattle.quickmeasure.specs.Counting.{fallen_below}
use Rattle.quickmeasure.proofs.Laws.{paired, rates_are, part, step_flat}
use Rattle.std.specs.Prelude.{Option, Some, None}

abbrev is_at : Option (List Float) → Bool
is_at (Some y) = true
is_at None = false

apart : {z : List Float} → None ≡ Some z → ⊥
apart e = false≢true (ap is_at e)

abbrev is_measured : Option M.Measure → Bool
is_measured (Some r) = true
is_measured None = false

never : {r : M.Measure} → None ≡ Some r → ⊥
never e = false≢true (ap is_measured e)

-- what the four rates of a step that is not refused ask for
module _ (row : List (List Float)) (k : MeasureFunctor) (f : Rates) (vel : Float → Float) (rate : Float → Float → Option M.Measure)
    (is : (t y : Float) (ys : List Float) → f t (y ∷ ys) ≡ paired (vel t) (rate t y)) (h t y e : Float) where
  abbrev m : Float
  m = add binary64 t (half_of h)

  abbrev ahead : Float → Float → Float
  ahead a v = add binary64 y (mul binary64 a v)

  abbrev at_length : Float → ℕ
  at_length = fallen_at row k

  four : (z : List Float) → rk4 f h t (y ∷ e ∷ []) ≡ Some z →
      fallen_among row k (asked_in f h t (y ∷ e ∷ [])) ≡
      at_length y + (at_length (ahead (half_of h) (vel t)) + (at_length (ahead (half_of h) (vel m)) + (at_length (ahead h (vel m)) + 0)))
  unfolding asked_in moved fallen_among
  four z done =
      go (rate t y) (rate m (ahead (half_of h) (vel t))) (rate m (ahead (half_of h) (vel m)))
      (is t y (e ∷ [])) (λ x. is m (ahead (half_of h) (vel t)) (x ∷ [])) (λ x. is m (ahead (half_of h) (vel m)) (x ∷ []))
    where
      go : (r1 r2 r3 : Option M.Measure) → f t (y ∷ e ∷ []) ≡ paired (vel t) r1 →
          ((x : Float) → f m (ahead (half_of h) (vel t) ∷ x ∷ []) ≡ paired (vel m) r2) →
          ((x : Float) → f m (ahead (half_of h) (vel m) ∷ x ∷ []) ≡ paired (vel m) r3) →
          fallen_among row k (asked_in f h t (y ∷ e ∷ [])) ≡
          at_length y + (at_length (ahead (half_of h) (vel t)) + (at_length (ahead (half_of h) (vel m)) + (at_length (ahead h (vel m)) + 0)))
      go (Some a) (Some b) (Some c) p q r =
          rw (p, q (add binary64 e (mul binary64 (half_of h) a.error)), r (add binary64 e (mul binary64 (half_of h) b.error)))
      go (Some a) (Some b) None p q r =
          absurd (apart (sym (stops3 f h t (y ∷ e ∷ []) p (q (add binary64 e (mul binary64 (half_of h) a.error)))
          (r (add binary64 e (mul binary64 (half_of h) b.error)))) ∙ done))
      go (Some a) None r3 p q r =
          absurd (apart (sym (stops2 f h t (y ∷ e ∷ []) p (q (add binary64 e (mul binary64 (half_of h) a.error)))) ∙ done))
      go None r2 r3 p q r = absurd (apart (sym (stops1 f h t (y ∷ e ∷ []) p) ∙ done))

module _ (row : List (List Float)) (m : MeasureFunctor) where
  -- the stages, of which each has its length
  module _ (stages : List (List Float)) (w : Written m.af stages) where
    abbrev of_stage : ℕ → ℕ
    of_stage k = fallen_at row m (get_or (get_or stages k []) 2 nan)

    step_asks : (i : ℕ) (e : Float) (z : List Float) → i < 10 → rk4 (apply_of row m) tenth (time_at tenth i) (length_at m.af i ∷ e ∷ []) ≡ Some z →
        fallen_among row m (asked_in (apply_of row m) tenth (time_at tenth i) (length_at m.af i ∷ e ∷ [])) ≡
        of_stage (4 * i) + (of_stage (4 * i + 1) + (of_stage (4 * i + 2) + (of_stage (4 * i + 3) + 0)))
    unfolding stage_of
    step_asks i e z less done =
        four row m (apply_of row m) (speed_of m.af) (λ t y. term_of row m t (speed_of m.af t) y) (rates_are row m) tenth (time_at tenth i) (length_at m.af i) e z done
        ∙ rw (
          w.is (4 * i) (omega arith),
          w.is (4 * i + 1) (omega arith),
          w.is (4 * i + 2) (omega arith),
          w.is (4 * i + 3) (omega arith),
          stage_first m.af i,
          stage_next m.af i 1 (omega arith),
          stage_next m.af i 2 (omega arith),
          stage_next m.af i 3 (omega arith),
        )

    below_four : (i : ℕ) → fallen_below row m stages (4 * suc i) ≡
        fallen_below row m stages (4 * i) + (of_stage (4 * i) + (of_stage (4 * i + 1) + (of_stage (4 * i + 2) + (of_stage (4 * i + 3) + 0))))
    unfolding fallen_below
    below_four i =
        let more : 4 * suc i ≡ suc (suc (suc (suc (4 * i)))) = omega arith in
        let third : suc (suc (suc (4 * i))) ≡ 4 * i + 3 = omega arith in
        let second : suc (suc (4 * i)) ≡ 4 * i + 2 = omega arith in
        let first : suc (4 * i) ≡ 4 * i + 1 = omega arith in
        rw more (rw (third, second, first) (omega arith))

    -- d steps, from the step i on
    rest : (d i : ℕ) (e : Float) (z : List Float) → i + d ≡ 10 → walk (apply_of row m) tenth d (time_at tenth i) (length_at m.af i ∷ e ∷ []) ≡ Some z →
        fallen_below row m stages (4 * i) + fallen_among row m (asked_all (apply_of row m) tenth d (time_at tenth i) (length_at m.af i ∷ e ∷ [])) ≡
        fallen_below row m stages 40
    unfolding walk asked_all fallen_among time_at
    rest zero i e z all done =
        let ten : 4 * i ≡ 40 = omega arith in
        let none : fallen_below row m stages (4 * i) + 0 ≡ fallen_below row m stages (4 * i) = omega arith in
        none ∙ rw ten
    rest (suc d) i e z all done =
        go (λ r. rest d (suc i) r z (omega arith)) (summed tenth e (part row m i 0) (part row m i 1) (part row m i 2) (part row m i 3)) (step_flat row m i e)
      where
        go : ((r : Float) → walk (apply_of row m) tenth d (time_at tenth (suc i)) (length_at m.af (suc i) ∷ r ∷ []) ≡ Some z →
            fallen_below row m stages (4 * suc i) + fallen_among row m (asked_all (apply_of row m) tenth d (time_at tenth (suc i)) (length_at m.af (suc i) ∷ r ∷ [])) ≡
            fallen_below row m stages 40) →
            (x : Option M.Measure) → rk4 (apply_of row m) tenth (time_at tenth i) (length_at m.af i ∷ e ∷ []) ≡ paired (length_at m.af (suc i)) x →
            fallen_below row m stages (4 * i) + fallen_among row m (asked_all (apply_of row m) tenth (suc d) (time_at tenth i) (length_at m.af i ∷ e ∷ [])) ≡
            fallen_below row m stages 40
        go after (Some r) step =
            let later = after r.error (rw step at done) in
            let here = step_asks i e (length_at m.af (suc i) ∷ r.error ∷ []) (omega arith) step in
            let four-more = below_four i in
            let both = among_both row m (asked_in (apply_of row m) tenth (time_at tenth i) (length_at m.af i ∷ e ∷ []))
            (asked_all (apply_of row m) tenth d (add binary64 (time_at tenth i) tenth) (length_at m.af (suc i) ∷ r.error ∷ [])) in
            rw (step, both) (omega arith)
        go after None step = absurd (apart (rw step at done))

    pub counted : (r : M.Measure) → walked_by row m ≡ Some r → fallen_by row m ≡ fallen_below row m stages 40
    unfolding fallen_by walked_by length_at time_at fallen_below
    counted r is = go (walk (apply_of row m) tenth 10 nought (nought ∷ nought ∷ [])) refl is
      where
        go : (x : Option (List Float)) → walk (apply_of row m) tenth 10 nought (nought ∷ nought ∷ []) ≡ x → error_in x ≡ Some r → fallen_by row m ≡ fallen_below row m stages 40
        go (Some z) ends e =
            let all = rest 10 0 nought z refl ends in
            rw ends (omega arith)
        go None ends e = absurd (never e)

  pub below_most : (stages : List (List Float)) (k : ℕ) → fallen_below row m stages k ≤ 2 * k
  unfolding fallen_below
  below_most stages zero = omega arith
  below_most stages (suc k) =
      let before = below_most stages k in
      let last = two row m (get_or (get_or stages k []) 2 nan) in
      omega arith
