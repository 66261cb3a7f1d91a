-- What the code works out of one coordinate, each float operation rounded as IEEE 754 says. Definitions only: that nothing is rounded, so
-- that these are the numbers of specs/Cubic.antt, is proofs/Halving.antt.
use Rattle.std.specs.Prelude.{Bool, ◌||◌, Float}
use Rattle.std.specs.Float.{binary64}
use Rattle.std.specs.Float.Ieee.{add, sub, mul, lt, of_bits}
use Rattle.float.specs.Numbers.{half, three}
use Rattle.float.specs.Float.{abs_of}
use Rattle.halving.specs.declared.Axis.{Axis}
use Rattle.halving.specs.declared.Cubic.{Cubic}

-- 1/4 and 8
abbrev pub quarter : Float
quarter = of_bits binary64 0x3fd0_0000_0000_0000

abbrev pub eight : Float
eight = of_bits binary64 0x4020_0000_0000_0000

unfoldable pub mid_of : Float → Float → Float
mid_of a b = mul binary64 (add binary64 a b) half

abbrev pub p012_of : Axis → Float
p012_of a = mid_of (mid_of a.p0 a.p1) (mid_of a.p1 a.p2)

abbrev pub p123_of : Axis → Float
p123_of a = mid_of (mid_of a.p1 a.p2) (mid_of a.p2 a.p3)

unfoldable pub first_of : Axis → Axis
first_of a = record { p0 = a.p0; p1 = mid_of a.p0 a.p1; p2 = p012_of a; p3 = mid_of (p012_of a) (p123_of a) }

unfoldable pub second_of : Axis → Axis
second_of a = record { p0 = mid_of (p012_of a) (p123_of a); p1 = p123_of a; p2 = mid_of a.p2 a.p3; p3 = a.p3 }

unfoldable pub third_of : Axis → Float
third_of a = sub binary64 (add binary64 (sub binary64 a.p3 (mul binary64 a.p2 three)) (mul binary64 a.p1 three)) a.p0

unfoldable pub bent_of : Axis → Bool
unfolding third_of
bent_of a = lt eight (abs_of (third_of a))

unfoldable pub control_of : Axis → Float
control_of a =
    mul binary64 (sub binary64 (sub binary64 (add binary64 (mul binary64 a.p1 three) (mul binary64 a.p2 three)) a.p0) a.p3) quarter

abbrev pub first_cubic : Cubic → Cubic
first_cubic c = record { x = first_of c.x; y = first_of c.y }

abbrev pub second_cubic : Cubic → Cubic
second_cubic c = record { x = second_of c.x; y = second_of c.y }

abbrev pub bent_cubic : Cubic → Bool
bent_cubic c = bent_of c.x || bent_of c.y
