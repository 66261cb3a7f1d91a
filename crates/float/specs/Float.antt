-- What each function of this crate gives, on the values of `lib.Ieee`: `fin s m e` is m * 2 ^ e, negative where s is true. Definitions only.
use Rattle.std.specs.Prelude.{ℕ, zero, suc, ◌+◌, ◌-◌, ◌*◌, ◌/◌, ◌^◌, Bool, true, false, cond, ℤ, nat_le, nat_lt, Float}
use Rattle.std.specs.Float.Ieee as Ieee
use Rattle.std.specs.Float.{nan, inf, fin, binary64}
use Rattle.std.specs.Float.Ieee.{up, down}

-- ---- the sign

-- x without its sign: abs(-0) is +0
unfoldable pub abs_of : Float → Float
abs_of nan = nan
abs_of (inf s) = inf false
abs_of (fin s m e) = fin false m e

-- 1e-8, rounded
unfoldable pub tiny : Float
tiny = Ieee.round binary64 false 1 (10 ^ 8)

-- |a - b| < 1e-8
unfoldable pub close_to : Float → Float → Bool
close_to a b = Ieee.lt (abs_of (Ieee.sub binary64 a b)) tiny

-- ---- whole numbers

-- m * 2 ^ e, brought to a whole number: the next one down, the next one up, and the nearest one, where a half goes up
abbrev pub cut : ℕ → ℤ → ℕ
cut m e = m * up e / down e

abbrev pub lift : ℕ → ℤ → ℕ
lift m e = (m * up e + (down e - 1)) / down e

abbrev pub near : ℕ → ℤ → ℕ
near m e = (2 * (m * up e) + down e) / (2 * down e)

-- the three rules for a magnitude, by the sign: toward zero; downward, where a negative's magnitude goes up; to the nearest, halves away from zero
abbrev pub to_zero : Bool → ℕ → ℤ → ℕ
to_zero s m e = cut m e

abbrev pub downward : Bool → ℕ → ℤ → ℕ
downward false m e = cut m e
downward true m e = lift m e

abbrev pub to_nearest : Bool → ℕ → ℤ → ℕ
to_nearest s m e = near m e

-- x brought to a whole number by the rule r, which an f64 holds, so that `round` changes nothing. A zero has x's sign; a NaN and an infinity stay.
unfoldable pub whole_by : (Bool → ℕ → ℤ → ℕ) → Float → Float
whole_by r nan = nan
whole_by r (inf s) = inf s
whole_by r (fin s m e) = Ieee.round binary64 s (r s m e) 1

abbrev pub trunc_of : Float → Float
trunc_of x = whole_by to_zero x

abbrev pub floor_of : Float → Float
floor_of x = whole_by downward x

abbrev pub round_of : Float → Float
round_of x = whole_by to_nearest x

-- what truncation cuts off: one subtraction
abbrev pub fract_of : Float → Float
fract_of x = Ieee.sub binary64 x (trunc_of x)

-- ---- the square root, by whole-number squares. That no f64 is as near to the root of x as `root_of x` is `RootIsNearest` of specs/Rounding

-- q, or q + 1 where its square is no more than n
abbrev pub with_bit : ℕ → ℕ → ℕ
with_bit n q = cond (nat_le ((q + 1) * (q + 1)) n) (q + 1) q

-- the q with q * q ≤ n < (q + 1) * (q + 1), for an n below 4 ^ k: one binary digit after the other
unfoldable pub root_down : ℕ → ℕ → ℕ
root_down zero n = 0
root_down (suc k) n = with_bit n (2 * root_down k (n / 4))

-- the nearest whole number to the root of n: q, or q + 1 where n is above q * q + q, so above (q + 1/2) ^ 2
abbrev pub nearest_to : ℕ → ℕ → ℕ
nearest_to n q = cond (nat_lt q (n - q * q)) (q + 1) q

unfoldable pub root_near : ℕ → ℕ → ℕ
root_near k n = nearest_to n (root_down k n)

-- The root of n times the smallest value, 2 ^ -1074, for an n above 0. n * 2 ^ 106 / 4 ^ h has 105 or 106 binary digits, so its root has 53.
-- The root of n * 2 ^ -1074 is that root times 2 ^ (h - 53 - 537), which is 2 ^ (h + 484) times 2 ^ -1074.
unfoldable pub root_units : ℕ → Float
root_units n =
    let h = (Ieee.size n + 1) / 2 in
    Ieee.odd 53 false (root_near 53 (n * 2 ^ 106 / 4 ^ h)) (h + 484) 1074

unfoldable pub root_of : Float → Float
root_of nan = nan
root_of (inf s) = cond s nan (inf s)
root_of (fin s zero e) = fin s zero e
root_of (fin s (suc m) e) = cond s nan (root_units (suc m * up e * 2 ^ 1074 / down e))
