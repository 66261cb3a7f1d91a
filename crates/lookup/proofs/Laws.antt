-- The cases of a lookup, said once of the place and of the direction. Assumes nothing.
use Prim.Native.Nat.{ℕ, ◌+◌, ◌≤◌, ◌<◌}
use mathlib.Core.Path.{◌≡◌, refl}
use mathlib.Core.List.{List, []}
use native.Mathlib.Omega.{arith}
use borrow.Author.Tests.{le-leb, lt-leb}
use lib.ListN.{length, get_or}
use lib.Ieee.{Float, to_unsigned}
use Rattle.float.specs.Float.{fract_of}
use Rattle.std.specs.Prelude.{Some, None}
use Rattle.lookup.specs.Lookup.{origin, point_between, looked_up, Falls}

module _ (row : List (List Float)) (s : Float) (b : ℕ) (place : b ≡ to_unsigned 64 s) where
  -- the numbers k and k + 1
  module _ (k : ℕ) where
    pub past : length row ≤ b → looked_up k row s ≡ Some origin
    unfolding looked_up
    past h = rw (← place, le-leb (length row) b h)

    pub last : b < length row → length row ≤ b + 1 → looked_up k row s ≡ None
    unfolding looked_up
    last h g = rw (← place, lt-leb (length row) b h, le-leb (length row) (b + 1) g)

    pub inside : b + 1 < length row → looked_up k row s ≡ Some (point_between k (get_or row b []) (get_or row (b + 1) []) (fract_of s))
    unfolding looked_up
    inside h =
        let less : b < length row = omega arith in
        rw (← place, lt-leb (length row) b less, lt-leb (length row) (b + 1) h)

  pub both_fall : length row ≤ b → Falls row s 2
  both_fall h = record { is = rw (← place, le-leb (length row) b h) refl; few = omega arith }

  pub none_falls : b < length row → Falls row s 0
  none_falls h = record { is = rw (← place, lt-leb (length row) b h) refl; few = omega arith }
