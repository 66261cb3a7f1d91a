-- The derivative of a quad, its speed, and its length by ten steps of RK4 over one value. Definitions only.
use Rattle.std.specs.Prelude.{List, [], ◌∷◌, get_or, Float, Option, Some, None}
use Rattle.std.specs.Float.{nan, binary64}
use Rattle.std.specs.Float.Ieee.{sub, mul}
use Rattle.float.specs.Numbers.{nought, two}
pub use Rattle.float.specs.Numbers.{tenth, hundredth}
use Rattle.geometry.specs.Geometry.{along_of, norm_of}
use Rattle.geometry.specs.declared.Point.{Point}
use Rattle.geometry.specs.declared.Quad.{Quad}
use Rattle.arclen.specs.Rk4.{Rates, rk4, walk}
use Rattle.arclen.specs.declared.ArclenFunctor.{ArclenFunctor}

abbrev pub doubled : Float → Float → Float
doubled a b = mul binary64 two (sub binary64 b a)

-- the derivative at both ends
unfoldable pub arclen_functor_of : Quad → ArclenFunctor
arclen_functor_of q = record {
  dx0 = doubled q.p0.x q.p1.x;
  dy0 = doubled q.p0.y q.p1.y;
  dx1 = doubled q.p1.x q.p2.x;
  dy1 = doubled q.p1.y q.p2.y;
}

unfoldable pub deriv_of : ArclenFunctor → Float → Point
deriv_of f t = record { x = along_of f.dx0 f.dx1 t; y = along_of f.dy0 f.dy1 t }

unfoldable pub speed_of : ArclenFunctor → Float → Float
speed_of f t = norm_of (deriv_of f t)

-- the rate of the length is the speed: it does not look at the length
abbrev pub length_rates : ArclenFunctor → Rates
length_rates f t y = Some (speed_of f t ∷ [])

-- the first value
abbrev pub first_of : Option (List Float) → Float
first_of (Some y) = get_or y 0 nan
first_of None = nan

-- RK4 for one value: the length after one step of h, from the length y at t
unfoldable pub rk4_one : ArclenFunctor → Float → Float → Float → Float
rk4_one f h t y = first_of (rk4 (length_rates f) h t (y ∷ []))

unfoldable pub arclen_of : Quad → Float
arclen_of q = first_of (walk (length_rates (arclen_functor_of q)) tenth 10 nought (nought ∷ []))
