-- Worked values of the definitions, by computation. Assumes nothing.
use mathlib.Core.Path.{◌≡◌, refl}
use mathlib.Core.List.{[], ◌∷◌}
use mathlib.Core.Bool.{false}
use Prim.Native.Nat.{ℕ}
use lib.Ieee as Ieee
use lib.Ieee.{Float, binary64, round, of_bits}
use Rattle.float.specs.Float.{root_down, root_near, root_units, root_of}
use Rattle.geometry.specs.declared.Point.{Point}
use Rattle.geometry.specs.declared.Quad.{Quad}
use Rattle.arclen.specs.Rk4.{moved, grown_all, rk4, walk}
use Rattle.arclen.specs.Arclen.{arclen_functor_of, deriv_of, speed_of, arclen_of}

-- n / d, rounded
abbrev num : ℕ → ℕ → Float
num n d = round binary64 false n d

abbrev whole : ℕ → ℕ → Point
whole a b = record { x = num a 1; y = num b 1 }

abbrev quad : Point → Point → Point → Quad
quad a b c = record { p0 = a; p1 = b; p2 = c }

-- a line from (0, 0) to (6, 8), 10 long, and a bent quad, 1.6232248241172942
lengths : arclen_of (quad (whole 0 0) (whole 3 4) (whole 6 8)) ∷ arclen_of (quad (whole 0 0) (whole 1 0) (whole 1 1)) ∷ []
    ≡ of_bits binary64 0x4024_0000_0000_0000 ∷ of_bits binary64 0x3ff9_f8ba_97da_39e1 ∷ []
unfolding moved grown_all rk4 walk arclen_functor_of deriv_of speed_of arclen_of root_of root_units root_near root_down Ieee.of_bits Ieee.round Ieee.size Ieee.add Ieee.sub Ieee.mul Ieee.div
lengths = refl
