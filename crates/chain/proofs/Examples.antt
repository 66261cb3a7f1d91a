-- Equality of f64 values, by cases, for a reader. Assumes nothing.
use mathlib.Core.Bool.{true, false}
use mathlib.Core.Path.{◌≡◌, refl}
use lib.Ieee.{nan, binary64, of_bits, eq, is_nan}
use Rattle.float.specs.Numbers.{nought, one}
use Rattle.chain.specs.Valid.{equals}

zero_of_either_sign : equals nought (of_bits binary64 0x8000_0000_0000_0000) ≡ true
unfolding eq is_nan of_bits
zero_of_either_sign = refl

nan_and_nan : equals nan nan ≡ true
unfolding eq is_nan
nan_and_nan = refl

nan_and_zero : equals nan nought ≡ false
unfolding eq is_nan of_bits
nan_and_zero = refl

-- the next f64 above 1 is close to 1, and not equal
one_ulp_off : equals one (of_bits binary64 0x3ff0_0000_0000_0001) ≡ false
unfolding eq is_nan of_bits
one_ulp_off = refl
