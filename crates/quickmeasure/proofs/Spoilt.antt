-- Where the first rate of the error is a NaN, the measure is one. So a piece whose control has a NaN measures NaN: its speed is one at every time. The
-- statement `NanControlMeasuresNan` of specs/Statements. Assumes nothing.
use Prim.Native.Nat.{ℕ, zero, suc}
use mathlib.Core.Bool.{Bool, true, false, ◌||◌}
use mathlib.Core.Path.{◌≡◌, refl, ap, ◌∙◌}
use mathlib.Core.List.{List, [], ◌∷◌}
use lib.Ieee.{Float, nan, binary64, neg, add, sub, mul, is_nan}
use Rattle.float.specs.Numbers.{nought, two}
use Rattle.float.specs.Float.{root_of}
use Rattle.float.proofs.Number.{only_nan}
use Rattle.float.proofs.Zeros.{plus_nan, nan_plus, times_nan}
use Rattle.geometry.specs.Geometry.{along_of, squares, square_distance_of, point_at_t}
use Rattle.geometry.specs.declared.Point.{Point}
use Rattle.geometry.specs.declared.Quad.{Quad}
use Rattle.arclen.specs.Rk4.{and_then, grown_by, walk}
use Rattle.arclen.specs.Arclen.{tenth, doubled, arclen_functor_of, deriv_of, speed_of}
use Rattle.quickarclen.specs.Stages.{time_at, length_at, stage_of}
use Rattle.quicklookup.specs.Spots.{spot_at}
use Rattle.measure.specs.Measure.{dist_factor, error_of, along_samples, apply_of, error_in, walked_by, measure_functor_of, measure_of}
use Rattle.quickmeasure.specs.Terms.{measured, error_at, term_of}
use Rattle.quickmeasure.specs.Early.{summed}
use Rattle.quickmeasure.specs.Statements.{has_nan, NanControlMeasuresNan}
use Rattle.measure.specs.declared.MeasureFunctor.{MeasureFunctor}
use Rattle.measure.specs.declared.Measure.{Measure}
use Rattle.quickmeasure.proofs.Laws.{paired, part, step_flat}
use Rattle.quicklookup.specs.declared.Spot.{Spot}
use Rattle.std.specs.Prelude.{Option, Some, None}

-- ---- where the first rate of the error is a NaN, the error stays one

-- no score, or NaN
pub data Spoilt : Option Measure → Type 0 where
  none : Spoilt None
  spoilt : Spoilt (measured nan)

-- at the start the rate of the error is NaN, whatever is looked up
abbrev pub StartsNan : MeasureFunctor → Type 0
StartsNan m = (xy dir : Point) → error_of (speed_of m.af nought) (deriv_of m.af nought) (point_at_t m.q nought) xy dir ≡ nan

-- the term of the first stage
term_spoilt : (row : List (List Float)) (m : MeasureFunctor) → StartsNan m → Spoilt (term_of row m nought (speed_of m.af nought) nought)
unfolding term_of
term_spoilt row m s = by (spot_at row (along_samples m nought))
  where
    by : (c : Option Spot) → Spoilt (error_at (speed_of m.af nought) (deriv_of m.af nought) (point_at_t m.q nought) c)
    by (Some c) = rw (s c.xy c.dir) spoilt
    by None = none

pub spoilt_is : {r : Option Measure} → Spoilt r → (a : Measure) → r ≡ Some a → a.error ≡ nan
spoilt_is spoilt a h = cc
spoilt_is none a h = cc

-- a step with a NaN for its first rate, and one from NaN
first_nan : (h e b c d : Float) → grown_by h e nan b c d ≡ nan
first_nan h e b c d = simp (nan_plus, times_nan, plus_nan)

from_nan : (h a b c d : Float) → grown_by h nan a b c d ≡ nan
from_nan h a b c d = rw nan_plus

summed_spoilt : (h e : Float) (r1 r2 r3 r4 : Option Measure) → ((a : Measure) (b c d : Float) → r1 ≡ Some a → grown_by h e a.error b c d ≡ nan) →
    Spoilt (summed h e r1 r2 r3 r4)
unfolding summed
summed_spoilt h e (Some a) (Some b) (Some c) (Some d) all = rw (all a b.error c.error d.error refl) spoilt
summed_spoilt h e (Some a) (Some b) (Some c) None all = none
summed_spoilt h e (Some a) (Some b) None u all = none
summed_spoilt h e (Some a) None w u all = none
summed_spoilt h e None r w u all = none

module _ (row : List (List Float)) (m : MeasureFunctor) where
  -- n steps from the step i, at the error e
  abbrev steps : ℕ → ℕ → Float → Option Measure
  steps n i e = error_in (walk (apply_of row m) tenth n (time_at tenth i) (length_at m.af i ∷ e ∷ []))

  next : (n i : ℕ) (e : Float) → Spoilt (summed tenth e (part row m i 0) (part row m i 1) (part row m i 2) (part row m i 3)) →
      Spoilt (steps n (suc i) nan) → Spoilt (steps (suc n) i e)
  unfolding walk time_at
  next n i e s later = rw (step_flat row m i e) (by s)
    where
      by : {r : Option Measure} → Spoilt r →
          Spoilt (error_in (and_then (paired (length_at m.af (suc i)) r) (walk (apply_of row m) tenth n (add binary64 (time_at tenth i) tenth))))
      by spoilt = later
      by none = none

  stays : (n i : ℕ) → Spoilt (steps n i nan)
  unfolding walk
  stays zero i = spoilt
  stays (suc n) i = next n i nan (summed_spoilt tenth nan _ _ _ _ (λ a b c d h. from_nan tenth a.error b c d)) (stays n (suc i))

  pub walked_spoilt : StartsNan m → Spoilt (walked_by row m)
  unfolding walked_by time_at length_at stage_of
  walked_spoilt s =
      next 9 0 nought (summed_spoilt tenth nought _ _ _ _ (λ a b c d h. rw (spoilt_is (term_spoilt row m s) a h) (first_nan tenth nought b c d))) (stays 9 1)

-- ---- a control with a NaN

nan_times : (x : Float) → mul binary64 nan x ≡ nan
unfolding mul
nan_times x = refl

-- what starts as a NaN
doubled_nan : (a : Float) → doubled a nan ≡ nan
unfolding sub
doubled_nan a = rw (nan_plus (neg a)) (times_nan two)

along_nan : (b t : Float) → along_of nan b t ≡ nan
along_nan b t = nan_plus (mul binary64 t (sub binary64 b nan))

root_nan : root_of nan ≡ nan
unfolding root_of
root_nan = refl

squares_nan : (x y : Float) → (is_nan x || is_nan y) ≡ true → squares x y ≡ nan
squares_nan x y h = by (is_nan x) refl h
  where
    by : (b : Bool) → is_nan x ≡ b → (b || is_nan y) ≡ true → squares x y ≡ nan
    by true e k = rw (only_nan x e, nan_times nan) (nan_plus (mul binary64 y y))
    by false e k = rw (only_nan y k, nan_times nan) (plus_nan (mul binary64 x x))

-- the derivative at the start has a NaN where the control has one
starts_nan : (a p b : Float) → is_nan p ≡ true → is_nan (along_of (doubled a p) (doubled p b) nought) ≡ true
unfolding is_nan
starts_nan a p b h = rw (only_nan p h, doubled_nan a, along_nan (doubled nan b) nought) refl

deriv_nan : (q : Quad) → has_nan q.p1 ≡ true → has_nan (deriv_of (arclen_functor_of q) nought) ≡ true
unfolding deriv_of arclen_functor_of
deriv_nan q h = by (is_nan q.p1.x) refl h
  where
    or-true : (b : Bool) → (b || true) ≡ true
    or-true true = refl
    or-true false = refl

    by : (b : Bool) → is_nan q.p1.x ≡ b → (b || is_nan q.p1.y) ≡ true → has_nan (deriv_of (arclen_functor_of q) nought) ≡ true
    by true e k = rw (starts_nan q.p0.x q.p1.x q.p2.x e) refl
    by false e k =
        rw (starts_nan q.p0.y q.p1.y q.p2.y k) (or-true (is_nan (along_of (doubled q.p0.x q.p1.x) (doubled q.p1.x q.p2.x) nought)))

speed_nan : (q : Quad) → has_nan q.p1 ≡ true → speed_of (arclen_functor_of q) nought ≡ nan
unfolding speed_of
speed_nan q h = ap root_of (squares_nan _ _ (deriv_nan q h)) ∙ root_nan

-- at a speed that is a NaN so is the rate of the error
error_nan : (v : Float) (d p xy dir : Point) → v ≡ nan → error_of v d p xy dir ≡ nan
unfolding error_of
error_nan v d p xy dir e = rw (e, times_nan (square_distance_of p xy), times_nan dist_factor) (nan_plus _)

pub spoils : NanControlMeasuresNan
unfolding measure_of
spoils row s0 s1 q h m e = spoilt_is (walked_spoilt row (measure_functor_of s0 s1 q) (λ xy dir. error_nan _ _ _ xy dir (speed_nan q h))) m e
