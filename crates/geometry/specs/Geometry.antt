-- Points and quads: each float operation is rounded as IEEE 754 says, in the order of the Rust. Definitions only.
use Rattle.std.specs.Prelude.{Bool, true, false, ◌&&◌, T, Float, Option, Some, None}
use Rattle.std.specs.Float.{binary64}
use Rattle.std.specs.Float.Ieee.{add, sub, mul, div, lt}
use Rattle.std.specs.Float.Ieee.Scale.{finite}
use Rattle.float.specs.Numbers.{nought, half, one, epsilon}
use Rattle.float.specs.Float.{abs_of, close_to, floor_of, round_of, root_of}
use Rattle.geometry.specs.declared.Point.{Point}
use Rattle.geometry.specs.declared.Quad.{Quad}

-- ---- points

-- a + t * (b - a), and that in each coordinate
abbrev pub along_of : Float → Float → Float → Float
along_of a b t = add binary64 a (mul binary64 t (sub binary64 b a))

abbrev pub lerp_of : Point → Point → Float → Point
lerp_of p q t = record { x = along_of p.x q.x t; y = along_of p.y q.y t }

abbrev pub is_close : Point → Point → Bool
is_close p q = close_to p.x q.x && close_to p.y q.y

-- the rounded sum of two rounded squares
abbrev pub squares : Float → Float → Float
squares a b = add binary64 (mul binary64 a a) (mul binary64 b b)

abbrev pub square_distance_of : Point → Point → Float
square_distance_of p q = squares (sub binary64 p.x q.x) (sub binary64 p.y q.y)

abbrev pub distance_of : Point → Point → Float
distance_of p q = root_of (square_distance_of p q)

abbrev pub square_norm_of : Point → Float
square_norm_of p = squares p.x p.y

abbrev pub norm_of : Point → Float
norm_of p = root_of (square_norm_of p)

abbrev pub scaled : Point → Float → Point
scaled p k = record { x = mul binary64 p.x k; y = mul binary64 p.y k }

abbrev pub unitize_of : Point → Point
unitize_of p = scaled p (div binary64 one (norm_of p))

abbrev pub round_point_of : Point → Point
round_point_of p = record { x = round_of p.x; y = round_of p.y }

-- f - floor(f) is close to 0
abbrev pub is_int : Float → Bool
is_int f = close_to (sub binary64 f (floor_of f)) nought

abbrev pub is_whole : Point → Bool
is_whole p = is_int p.x && is_int p.y

-- neither coordinate is a NaN or an infinity
abbrev pub Finite : Point → Type 0
Finite p = T (finite p.x) × T (finite p.y)

-- ---- quads

-- the straight piece: its control is the lerp of its ends at 0.5
abbrev pub line_quad : Point → Point → Quad
line_quad p q = record { p0 = p; p1 = lerp_of p q half; p2 = q }

-- the control is close to that lerp
abbrev pub is_line : Quad → Bool
is_line q = is_close q.p1 (lerp_of q.p0 q.p2 half)

-- the joint of two quads: the middle of their controls is close to the point where they join
abbrev pub is_smooth : Quad → Quad → Bool
is_smooth prev next = is_close (lerp_of prev.p1 next.p1 half) next.p0

abbrev pub point_at_t : Quad → Float → Point
point_at_t q t = lerp_of (lerp_of q.p0 q.p1 t) (lerp_of q.p1 q.p2 t) t

-- ---- the crossing of two lines with directions

-- d0.x * d1.y - d0.y * d1.x
abbrev pub det_of : Point → Point → Float
det_of d0 d1 = sub binary64 (mul binary64 d0.x d1.y) (mul binary64 d0.y d1.x)

-- how far the line through p along d lies from the origin, times the length of d
abbrev pub offset_of : Point → Point → Float
offset_of p d = sub binary64 (mul binary64 p.y d.x) (mul binary64 p.x d.y)

abbrev pub crossed_at : Float → Float → Float → Point → Point → Point
crossed_at det a b d0 d1 = record {
  x = div binary64 (sub binary64 (mul binary64 a d1.x) (mul binary64 b d0.x)) det;
  y = div binary64 (sub binary64 (mul binary64 a d1.y) (mul binary64 b d0.y)) det;
}

abbrev pub absent_if : Bool → Point → Option Point
absent_if true p = None
absent_if false p = Some p

-- absent if |det| < 2 ^ -52; a NaN det has a crossing, with NaN in it
abbrev pub intersect_of : Point → Point → Point → Point → Option Point
intersect_of p0 d0 p1 d1 =
    absent_if (lt (abs_of (det_of d0 d1)) epsilon) (crossed_at (det_of d0 d1) (offset_of p0 d0) (offset_of p1 d1) d0 d1)
