-- RK4 over two values, the length and the error, in its flat form. Assumes nothing.
use Prim.Native.Nat.{ℕ, suc, ◌+◌, ◌*◌}
use mathlib.Core.Path.{◌≡◌, refl}
use mathlib.Core.List.{List, [], ◌∷◌}
use native.Mathlib.Numerals.{add-one}
use lib.ListN.{get_or}
use lib.Ieee.{Float, nan, binary64, add, mul}
use Rattle.geometry.specs.Geometry.{point_at_t}
use Rattle.geometry.specs.declared.Point.{Point}
use Rattle.arclen.specs.Rk4.{and_then, Rates, half_of, moved, grown_by, grown_all, rk4}
use Rattle.arclen.specs.Arclen.{tenth, deriv_of, speed_of}
use Rattle.quickarclen.specs.Stages.{time_at, length_at, stage_of}
use Rattle.arclen.proofs.Laws.{grows, stops1, stops2, stops3, stops4, is_longer}
use Rattle.lookup.specs.Lookup.{xy_at, dir_at}
use Rattle.quicklookup.specs.Spots.{both, spot_at}
use Rattle.quicklookup.specs.declared.Spot.{Spot}
use Rattle.measure.specs.Measure.{error_of, along_samples, apply_of}
use Rattle.quickmeasure.specs.Terms.{measured, error_at, term_of, sums_of}
use Rattle.quickmeasure.specs.Early.{summed}
use Rattle.measure.specs.declared.MeasureFunctor.{MeasureFunctor}
use Rattle.measure.specs.declared.Measure.{Measure}
use Rattle.std.specs.Prelude.{Option, Some, None}

-- the cases of a term
module _ (row : List (List Float)) (m : MeasureFunctor) (t v y : Float) where
  pub term_at : (c : Spot) → spot_at row (along_samples m y) ≡ Some c →
      term_of row m t v y ≡ measured (error_of v (deriv_of m.af t) (point_at_t m.q t) c.xy c.dir)
  unfolding term_of
  term_at c e = rw e

  pub term_last : spot_at row (along_samples m y) ≡ None → term_of row m t v y ≡ None
  unfolding term_of
  term_last e = rw e

-- a length and an error that may be refused
abbrev pub paired : Float → Option Measure → Option (List Float)
paired y (Some e) = Some (y ∷ e.error ∷ [])
paired y None = None

-- Two values of which the first has the rate `vel`, which looks at the time alone, and the second the rate `rate`, which looks at the first value too:
-- the first value goes its way without the second, and the four rates of the second do not wait for each other.
module _ (f : Rates) (vel : Float → Float) (rate : Float → Float → Option Measure)
    (is : (t y : Float) (ys : List Float) → f t (y ∷ ys) ≡ paired (vel t) (rate t y)) (h t y e : Float) where
  abbrev m : Float
  m = add binary64 t (half_of h)

  abbrev ahead : Float → Float → Float
  ahead a v = add binary64 y (mul binary64 a v)

  pub two_values : rk4 f h t (y ∷ e ∷ []) ≡
      paired (grown_by h y (vel t) (vel m) (vel m) (vel (add binary64 t h)))
      (summed h e (rate t y) (rate m (ahead (half_of h) (vel t))) (rate m (ahead (half_of h) (vel m))) (rate (add binary64 t h) (ahead h (vel m))))
  unfolding moved grown_all summed
  two_values =
      go (rate t y) (rate m (ahead (half_of h) (vel t))) (rate m (ahead (half_of h) (vel m))) (rate (add binary64 t h) (ahead h (vel m)))
      (is t y (e ∷ [])) (λ z. is m (ahead (half_of h) (vel t)) (z ∷ [])) (λ z. is m (ahead (half_of h) (vel m)) (z ∷ []))
      (λ z. is (add binary64 t h) (ahead h (vel m)) (z ∷ []))
    where
      go : (r1 r2 r3 r4 : Option Measure) → f t (y ∷ e ∷ []) ≡ paired (vel t) r1 →
          ((z : Float) → f m (ahead (half_of h) (vel t) ∷ z ∷ []) ≡ paired (vel m) r2) →
          ((z : Float) → f m (ahead (half_of h) (vel m) ∷ z ∷ []) ≡ paired (vel m) r3) →
          ((z : Float) → f (add binary64 t h) (ahead h (vel m) ∷ z ∷ []) ≡ paired (vel (add binary64 t h)) r4) →
          rk4 f h t (y ∷ e ∷ []) ≡ paired (grown_by h y (vel t) (vel m) (vel m) (vel (add binary64 t h))) (summed h e r1 r2 r3 r4)
      go (Some a) (Some b) (Some c) (Some d) p q r s =
          grows f h t (y ∷ e ∷ []) p (q (add binary64 e (mul binary64 (half_of h) a.error))) (r (add binary64 e (mul binary64 (half_of h) b.error)))
          (s (add binary64 e (mul binary64 h c.error)))
      go (Some a) (Some b) (Some c) None p q r s =
          stops4 f h t (y ∷ e ∷ []) p (q (add binary64 e (mul binary64 (half_of h) a.error))) (r (add binary64 e (mul binary64 (half_of h) b.error)))
          (s (add binary64 e (mul binary64 h c.error)))
      go (Some a) (Some b) None r4 p q r s =
          stops3 f h t (y ∷ e ∷ []) p (q (add binary64 e (mul binary64 (half_of h) a.error))) (r (add binary64 e (mul binary64 (half_of h) b.error)))
      go (Some a) None r3 r4 p q r s = stops2 f h t (y ∷ e ∷ []) p (q (add binary64 e (mul binary64 (half_of h) a.error)))
      go None r2 r3 r4 p q r s = stops1 f h t (y ∷ e ∷ []) p

-- the rates of the measure are such rates: place and direction are refused together
module _ (row : List (List Float)) (m : MeasureFunctor) where
  abbrev speed : Float → Float
  speed t = speed_of m.af t

  abbrev term : Float → Float → Option Measure
  term t y = term_of row m t (speed t) y

  pub rates_are : (t y : Float) (ys : List Float) → apply_of row m t (y ∷ ys) ≡ paired (speed t) (term t y)
  unfolding apply_of term_of
  rates_are t y ys = go (xy_at row (along_samples m y)) (dir_at row (along_samples m y))
    where
      go : (p d : Option Point) →
          and_then p (λ xy. and_then d (λ dir. Some (speed t ∷ error_of (speed t) (deriv_of m.af t) (point_at_t m.q t) xy dir ∷ []))) ≡
          paired (speed t) (error_at (speed t) (deriv_of m.af t) (point_at_t m.q t) (both p d))
      go (Some p) (Some d) = refl
      go (Some p) None = refl
      go None d = refl

  -- the term of a stage, and the one of the stage j of the step i
  abbrev pub rate_of : List Float → Option Measure
  rate_of a = term_of row m (get_or a 0 nan) (get_or a 1 nan) (get_or a 2 nan)

  abbrev pub part : ℕ → ℕ → Option Measure
  part i j = rate_of (stage_of m.af tenth (time_at tenth i) (length_at m.af i) j)

  pub step_flat : (i : ℕ) (e : Float) →
      rk4 (apply_of row m) tenth (time_at tenth i) (length_at m.af i ∷ e ∷ []) ≡
      paired (length_at m.af (suc i)) (summed tenth e (part i 0) (part i 1) (part i 2) (part i 3))
  unfolding stage_of length_at
  step_flat i e = rw is_longer (two_values (apply_of row m) speed term rates_are tenth (time_at tenth i) (length_at m.af i) e)

-- the error after one more step
pub sums_next : (g : ℕ → Float) (e a b c d : Float) (i : ℕ) → e ≡ sums_of g i → a ≡ g (4 * i) → b ≡ g (4 * i + 1) → c ≡ g (4 * i + 2) → d ≡ g (4 * i + 3) →
    grown_by tenth e a b c d ≡ sums_of g (i + 1)
unfolding sums_of
sums_next g e a b c d i p at_a at_b at_c at-d = rw (add-one i, p, at_a, at_b, at_c, at-d)
