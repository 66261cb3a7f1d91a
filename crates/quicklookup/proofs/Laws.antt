-- The three cases of a lookup of place and direction at once: those of each by itself. Assumes nothing.
use Prim.Native.Nat.{ℕ, ◌+◌, ◌≤◌, ◌<◌}
use mathlib.Core.Path.{◌≡◌}
use mathlib.Core.List.{List, []}
use lib.ListN.{length, get_or}
use lib.Ieee.{Float, to_unsigned}
use Rattle.float.specs.Float.{fract_of}
use Rattle.lookup.specs.Lookup.{origin}
use Rattle.lookup.proofs.Laws as Each
use Rattle.quicklookup.specs.Spots.{spot_at, spot_between}
use Rattle.std.specs.Prelude.{Some, None}

module _ (row : List (List Float)) (s : Float) (b : ℕ) (place : b ≡ to_unsigned 64 s) where
  pub past : length row ≤ b → spot_at row s ≡ Some (record { xy = origin; dir = origin })
  past h = rw (Each.past row s b place 0 h, Each.past row s b place 2 h)

  pub last : b < length row → length row ≤ b + 1 → spot_at row s ≡ None
  last h g = rw (Each.last row s b place 0 h g)

  pub inside : b + 1 < length row → spot_at row s ≡ Some (spot_between (get_or row b []) (get_or row (b + 1) []) (fract_of s))
  inside h = rw (Each.inside row s b place 0 h, Each.inside row s b place 2 h)
