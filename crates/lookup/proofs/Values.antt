-- Worked values of the definition, by computation. Assumes nothing.
use mathlib.Core.Path.{◌≡◌, refl}
use mathlib.Core.List.{List, [], ◌∷◌, map}
use mathlib.Core.Bool.{true, false}
use Prim.Native.Nat.{ℕ}
use lib.Ieee as Ieee
use lib.Ieee.{Float, nan, binary64, round}
use Rattle.float.specs.Float.{whole_by}
use Rattle.std.specs.Prelude.{Option, Some, None}
use Rattle.geometry.specs.declared.Point.{Point}
use Rattle.lookup.specs.Lookup.{looked_up, xy_at}

abbrev num : ℕ → Float
num n = round binary64 false n 1

abbrev minus : ℕ → Float
minus n = round binary64 true n 1

abbrev place : Float → Float → Option Point
place a b = Some (record { x = a; y = b })

-- three samples: at (0, 0), (2, 4) and (6, 4)
abbrev three : List (List Float)
three = (num 0 ∷ num 0 ∷ num 1 ∷ num 0 ∷ []) ∷ (num 2 ∷ num 4 ∷ num 1 ∷ num 0 ∷ []) ∷ (num 6 ∷ num 4 ∷ num 1 ∷ num 0 ∷ []) ∷ []

-- between two places; at a negative length, from place 0 backward; a NaN at place 0; at the last place, refused; past it, (0, 0)
places : map (xy_at three) (round binary64 false 3 2 ∷ round binary64 true 1 2 ∷ nan ∷ num 2 ∷ round binary64 false 5 2 ∷ num 3 ∷ [])
    ≡ place (num 4) (num 4) ∷ place (minus 1) (minus 2) ∷ place nan nan ∷ None ∷ None ∷ place (num 0) (num 0) ∷ []
unfolding looked_up whole_by Ieee.of_bits Ieee.round Ieee.add Ieee.sub Ieee.mul Ieee.to_unsigned
places = refl
