-- How far a quad is from the samples between the lengths s0 and s1: ten steps of RK4 over two values, the length and the error, as the
-- Rust's `measure_quad`. The first lookup that is refused ends it: None. Definitions only.
use Rattle.std.specs.Prelude.{cond, List, [], ◌∷◌, get_or, Float, Option, Some, None}
use Rattle.std.specs.Float.{nan, binary64}
use Rattle.std.specs.Float.Ieee.{add, sub, mul, div}
use Rattle.float.specs.Numbers.{nought, five, two_hundredth}
use Rattle.float.specs.Float.{close_to}
use Rattle.geometry.specs.Geometry.{square_distance_of, point_at_t}
use Rattle.geometry.specs.declared.Point.{Point}
use Rattle.geometry.specs.declared.Quad.{Quad}
use Rattle.arclen.specs.Rk4.{and_then, Rates, walk}
use Rattle.arclen.specs.Arclen.{tenth, arclen_functor_of, deriv_of, speed_of, arclen_of}
use Rattle.lookup.specs.Lookup.{xy_at, dir_at}
use Rattle.measure.specs.declared.Measure.{Measure}
use Rattle.measure.specs.declared.MeasureFunctor.{MeasureFunctor}

-- DIST_FACTOR, 0.005
abbrev pub dist_factor : Float
dist_factor = two_hundredth

-- ANGLE_FACTOR, 5.0
abbrev pub angle_factor : Float
angle_factor = five

-- norm 2: the square of the distance, times the speed v
abbrev pub disterr_of : Float → Point → Point → Float
disterr_of v p xy = mul binary64 (square_distance_of p xy) v

-- norm 2: the square of o = dir.x * d.y - dir.y * d.x, over the speed v
abbrev pub angleerr_of : Float → Point → Point → Float
angleerr_of v d dir =
    let o = sub binary64 (mul binary64 dir.x d.y) (mul binary64 dir.y d.x) in
    div binary64 (mul binary64 o o) v

-- the rate of the error, where the quad has the speed v, the derivative d and the place p, and the samples have the place xy and the direction dir
unfoldable pub error_of : Float → Point → Point → Point → Point → Float
error_of v d p xy dir = add binary64 (mul binary64 dist_factor (disterr_of v p xy)) (mul binary64 angle_factor (angleerr_of v d dir))

-- the length along the samples where that along the quad is y
abbrev pub along_samples : MeasureFunctor → Float → Float
along_samples m y = add binary64 m.s0 (mul binary64 y m.ss)

-- the rates of the length and of the error at the time t, where y holds the length so far: the place is looked up before the direction
unfoldable pub apply_of : List (List Float) → MeasureFunctor → Rates
apply_of row m t y =
    let s = along_samples m (get_or y 0 nan) in
    let v = speed_of m.af t in
    and_then (xy_at row s) (λ xy.
    and_then (dir_at row s) (λ dir.
    Some (v ∷ error_of v (deriv_of m.af t) (point_at_t m.q t) xy dir ∷ [])))

-- how far along the samples a unit of the quad's length l leads: nowhere where l is close to 0
unfoldable pub stretch_of : Float → Float → Float → Float
stretch_of s0 s1 l = cond (close_to l nought) nought (div binary64 (sub binary64 s1 s0) l)

abbrev pub measure_functor_of : Float → Float → Quad → MeasureFunctor
measure_functor_of s0 s1 q = record { s0 = s0; ss = stretch_of s0 s1 (arclen_of q); af = arclen_functor_of q; q = q }

-- the second value
abbrev pub error_in : Option (List Float) → Option Measure
error_in (Some y) = Some (record { error = get_or y 1 nan })
error_in None = None

unfoldable pub walked_by : List (List Float) → MeasureFunctor → Option Measure
walked_by row m = error_in (walk (apply_of row m) tenth 10 nought (nought ∷ nought ∷ []))

unfoldable pub measure_of : List (List Float) → Float → Float → Quad → Option Measure
measure_of row s0 s1 q = walked_by row (measure_functor_of s0 s1 q)
