-- Worked values of the definitions, by computation. Assumes nothing.
use Rattle.std.specs.Prelude.{Some, None}
use mathlib.Core.Path.{◌≡◌, refl}
use mathlib.Core.List.{[], ◌∷◌, map}
use mathlib.Core.Bool.{true, false}
use Prim.Native.Nat.{ℕ, ◌^◌}
use lib.Ieee as Ieee
use lib.Ieee.{Float, nan, binary64, round, of_bits}
use Rattle.float.specs.Float.{abs_of, tiny, close_to, whole_by, root_down, root_near, root_units, root_of}
use Rattle.geometry.specs.Geometry.{is_int, is_close, distance_of, unitize_of, line_quad, is_line, is_smooth, intersect_of}
use Rattle.float.specs.Numbers.{nought, half, epsilon}
use Rattle.geometry.specs.declared.Point.{Point}
use Rattle.geometry.specs.declared.Quad.{Quad}

-- n / d, rounded
abbrev num : ℕ → ℕ → Float
num n d = round binary64 false n d

abbrev bits : ℕ → Float
bits b = of_bits binary64 b

abbrev point : Float → Float → Point
point a b = record { x = a; y = b }

abbrev whole : ℕ → ℕ → Point
whole a b = point (num a 1) (num b 1)

abbrev bent : Point → Point → Point → Quad
bent a b c = record { p0 = a; p1 = b; p2 = c }

-- 0.9999999999 is not whole, 1.0000000001 is
wholes : map is_int (num 9999999999 (10 ^ 10) ∷ num 10000000001 (10 ^ 10) ∷ num 3 1 ∷ num 1 2 ∷ nan ∷ []) ≡ false ∷ true ∷ true ∷ false ∷ false ∷ []
unfolding close_to tiny abs_of whole_by Ieee.of_bits Ieee.round Ieee.sub Ieee.lt
wholes = refl

-- 1e-8 against 0 is not close
close : map (is_close (whole 0 0)) (point (num 1 (10 ^ 9)) nought ∷ point (num 1 (10 ^ 8)) nought ∷ point nought (num 1 (10 ^ 8)) ∷ []) ≡ true ∷ false ∷ false ∷ []
unfolding close_to tiny abs_of Ieee.of_bits Ieee.round Ieee.sub Ieee.lt
close = refl

-- 3, 4, 5; and the unit of (3, 4), by 1 / 5, rounded, and two products: 0.6000000000000001 and 0.8
distances : distance_of (whole 1 1) (whole 4 5) ∷ (unitize_of (whole 3 4)).x ∷ (unitize_of (whole 3 4)).y ∷ []
    ≡ bits 0x4014_0000_0000_0000 ∷ bits 0x3fe3_3333_3333_3334 ∷ bits 0x3fe9_9999_9999_999a ∷ []
unfolding root_of root_units root_near root_down Ieee.of_bits Ieee.round Ieee.size Ieee.add Ieee.sub Ieee.mul Ieee.div
distances = refl

-- a control in the middle of the ends makes a line, one beside it does not
lines : map is_line (line_quad (whole 0 0) (whole 3 5) ∷ bent (whole 0 0) (whole 2 1) (whole 4 4) ∷ []) ≡ true ∷ false ∷ []
unfolding close_to tiny abs_of Ieee.of_bits Ieee.round Ieee.add Ieee.sub Ieee.mul Ieee.lt
lines = refl

-- from (0, 0) by (2, 0) to (4, 2): smooth where the next control is (6, 4), the same way on, and not where it is (6, 5)
joints : map (is_smooth (bent (whole 0 0) (whole 2 0) (whole 4 2))) (bent (whole 4 2) (whole 6 4) (whole 9 9) ∷ bent (whole 4 2) (whole 6 5) (whole 9 9) ∷ []) ≡ true ∷ false ∷ []
unfolding close_to tiny abs_of Ieee.of_bits Ieee.round Ieee.add Ieee.sub Ieee.mul Ieee.lt
joints = refl

-- the lines through (0, 0) along (1, 0) and through (3, 5) along (0, 1) cross at (3, 0); a det of 2 ^ -52 has a crossing, half of it has none;
-- a NaN det has a crossing, with NaN in it
crossings : intersect_of (whole 0 0) (whole 1 0) (whole 3 5) (whole 0 1)
    ∷ intersect_of (whole 0 0) (whole 1 0) (whole 0 0) (point nought epsilon)
    ∷ intersect_of (whole 0 0) (whole 1 0) (whole 0 0) (point nought (Ieee.mul binary64 half epsilon))
    ∷ intersect_of (whole 0 0) (point nan nan) (whole 3 5) (whole 0 1)
    ∷ []
    ≡ (Some (whole 3 0)) ∷ (Some (whole 0 0)) ∷ None ∷ (Some (point nan nan)) ∷ []
unfolding abs_of Ieee.of_bits Ieee.round Ieee.add Ieee.sub Ieee.mul Ieee.div Ieee.lt
crossings = refl
