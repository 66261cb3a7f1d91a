-- A row of 16-bit numbers has one at every place, past its end too. Assumes nothing.
use Prim.Native.Nat.{ℕ, ◌^◌, ◌<◌}
use mathlib.Core.List.{List}
use native.Mathlib.Decide.{dec_lt}
use native.Mathlib.Omega.{arith}
use lib.Dec.{lit≤}
use lib.IntN.{ℤ, pos}
use lib.Signed.{mag}
use lib.ListN.{length, get_or, get_or-eq_default}
use Rattle.rows.specs.Sixteen.{SixteenBits}

pub sixteen_at : (row : List ℤ) → SixteenBits row → (i : ℕ) → mag (get_or row i (pos 0)) < 2 ^ 15
sixteen_at row s i = by (dec_lt i (length row))
  where
    by : Dec (i < length row) → mag (get_or row i (pos 0)) < 2 ^ 15
    by (yes h) = s i h
    by (no h) = rw (get_or-eq_default row (pos 0) {n = i} (omega arith)) (lit≤ tt)
