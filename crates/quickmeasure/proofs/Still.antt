-- The straight piece from a point to itself scores NaN: its speed is 0, so the first rate of its error is 0 / 0, and a NaN stays. The statement of
-- specs/Statements. Assumes nothing.
use mathlib.Core.Path.{◌≡◌}
use lib.Dec.{T}
use lib.Ieee.{Float, nan, binary64, fits, mul, of_bits}
use lib.Ieee.Scale.{finite}
use Rattle.float.specs.Numbers.{nought, half, two}
use Rattle.float.proofs.Zeros.{IsZero, zero_finite, Level, plus_nan, times_nan, zeros_add, zeros_sub, times_zero, any_times_zero, root_zero, blanks_sub, blanks_mul, blank_over_zero, level_self, level_back, level_sub, plus_zero}
use Rattle.geometry.specs.Geometry.{along_of, line_quad}
use Rattle.geometry.specs.declared.Point.{Point}
use Rattle.geometry.proofs.Whole.{nought_zero, whole_finite}
use Rattle.arclen.specs.Arclen.{doubled, arclen_functor_of, deriv_of, speed_of}
use Rattle.arclen.specs.declared.ArclenFunctor.{ArclenFunctor}
use Rattle.measure.specs.Measure.{angle_factor, dist_factor, angleerr_of, disterr_of, error_of, measure_functor_of, measure_of}
use Rattle.quickmeasure.specs.Statements.{StayingMeasuresNan}
use Rattle.quickmeasure.proofs.Spoilt.{spoilt_is, walked_spoilt}

-- ---- the derivative is zero

half_finite : T (finite half)
unfolding of_bits
half_finite = tt

two_finite : T (finite two)
unfolding of_bits
two_finite = tt

-- the middle between x and x
middle : (x : Float) → T (fits binary64 x) → T (finite x) → Level (along_of x x half) x
middle x f t = plus_zero x f t (times_zero half half_finite (level_sub (level_self x t)))

doubled_zero : {x y : Float} → Level y x → IsZero (doubled x y)
doubled_zero l = times_zero two two_finite (level_sub l)

-- a derivative of zeros at both ends
record Still (f : ArclenFunctor) : Type 0 where
  dx0 : IsZero f.dx0
  dy0 : IsZero f.dy0
  dx1 : IsZero f.dx1
  dy1 : IsZero f.dy1

functor_still : (p : Point) → Level (along_of p.x p.x half) p.x → Level (along_of p.y p.y half) p.y →
    Still (arclen_functor_of (line_quad p p))
unfolding arclen_functor_of
functor_still p h v = record { dx0 = doubled_zero h; dy0 = doubled_zero v; dx1 = doubled_zero (level_back h); dy1 = doubled_zero (level_back v) }

along_zero : {a b : Float} → IsZero a → IsZero b → IsZero (along_of a b nought)
along_zero p q = zeros_add p (times_zero nought (zero_finite nought_zero) (zeros_sub q p))

-- ---- at the speed 0 the rate of the error is NaN

abbrev Zeros : Point → Type 0
Zeros d = IsZero d.x × IsZero d.y

deriv_zero : (f : ArclenFunctor) → Still f → Zeros (deriv_of f nought)
unfolding deriv_of
deriv_zero f s = (along_zero s.dx0 s.dx1, along_zero s.dy0 s.dy1)

square_zero : {x : Float} → IsZero x → IsZero (mul binary64 x x)
square_zero {x} z = times_zero x (zero_finite z) z

speed_zero : (f : ArclenFunctor) → Zeros (deriv_of f nought) → IsZero (speed_of f nought)
unfolding speed_of
speed_zero f d = root_zero (zeros_add (square_zero d.0) (square_zero d.1))

angle_nan : (v : Float) (d dir : Point) → IsZero v → Zeros d → angleerr_of v d dir ≡ nan
angle_nan v d dir z zs =
    let o = blanks_sub (any_times_zero dir.x zs.1) (any_times_zero dir.y zs.0) in
    blank_over_zero (blanks_mul o o) z

error_nan : (v : Float) (d p xy dir : Point) → IsZero v → Zeros d → error_of v d p xy dir ≡ nan
unfolding error_of
error_nan v d p xy dir z zs = rw (angle_nan v d dir z zs, times_nan angle_factor, plus_nan (mul binary64 dist_factor (disterr_of v p xy)))

pub still : StayingMeasuresNan
unfolding measure_of
still row s0 s1 p fx fy whole m h =
    let t = whole_finite p whole in
    let f = functor_still p (middle p.x fx t.0) (middle p.y fy t.1) in
    let zs = deriv_zero (arclen_functor_of (line_quad p p)) f in
    spoilt_is (walked_spoilt row (measure_functor_of s0 s1 (line_quad p p)) (λ xy dir. error_nan _ _ _ xy dir (speed_zero _ zs) zs)) m h
