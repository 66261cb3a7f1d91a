-- The numbers that the definitions name, each as its f64. What each stands for is stated in Constants.
use Rattle.std.specs.Prelude.{from_bits, Float}
use Rattle.std.specs.Float.{binary64}
use Rattle.std.specs.Float.Ieee.{div}

abbrev pub nought : Float
nought = from_bits binary64 0

abbrev pub half : Float
half = from_bits binary64 0x3fe0_0000_0000_0000

abbrev pub one : Float
one = from_bits binary64 0x3ff0_0000_0000_0000

abbrev pub two : Float
two = from_bits binary64 0x4000_0000_0000_0000

abbrev pub three : Float
three = from_bits binary64 0x4008_0000_0000_0000

abbrev pub four : Float
four = from_bits binary64 0x4010_0000_0000_0000

abbrev pub five : Float
five = from_bits binary64 0x4014_0000_0000_0000

abbrev pub six : Float
six = from_bits binary64 0x4018_0000_0000_0000

abbrev pub ten : Float
ten = from_bits binary64 0x4024_0000_0000_0000

abbrev pub hundred : Float
hundred = from_bits binary64 0x4059_0000_0000_0000

abbrev pub sixteen : Float
sixteen = from_bits binary64 0x4030_0000_0000_0000

-- 0.02, rounded: the bound of a corner by angle
abbrev pub fiftieth : Float
fiftieth = from_bits binary64 0x3f94_7ae1_47ae_147b

-- 0.005, rounded: the factor of a distance in the measure
abbrev pub two_hundredth : Float
two_hundredth = from_bits binary64 0x3f74_7ae1_47ae_147b

-- 2 ^ -52, the Rust's f64::EPSILON: the bound of a crossing
abbrev pub epsilon : Float
epsilon = from_bits binary64 0x3cb0_0000_0000_0000

-- the steps in t, by a division as in the Rust: of a quad's length and of the measure, and of the samples
abbrev pub tenth : Float
tenth = div binary64 one ten

abbrev pub hundredth : Float
hundredth = div binary64 one hundred
