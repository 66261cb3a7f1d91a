-- Rows of 16-bit numbers, as a contour's coordinates are lent. Definitions only.
use Rattle.std.specs.Prelude.{ℕ, ◌^◌, ◌<◌, List, ℤ, pos, length, get_or}
use Rattle.std.specs.Int.Signed.{mag}

-- each number is from -2 ^ 15 to 2 ^ 15 - 1
abbrev pub SixteenBits : List ℤ → Type 0
SixteenBits row = (i : ℕ) → i < length row → mag (get_or row i (pos 0)) < 2 ^ 15
