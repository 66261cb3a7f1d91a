-- A worked value of the definition, by computation. Assumes nothing.
use mathlib.Core.Path.{◌≡◌, refl}
use mathlib.Core.List.{List, [], ◌∷◌, map}
use mathlib.Core.Bool.{false}
use Prim.Native.Nat.{ℕ}
use lib.ListN.{take}
use lib.Ieee as Ieee
use lib.Ieee.{Float, binary64, round, of_bits}
use Rattle.float.specs.Numbers.{nought, one, four}
use Rattle.float.specs.Float.{abs_of, tiny, close_to, whole_by, root_down, root_near, root_units, root_of}
use Rattle.geometry.specs.declared.Point.{Point}
use Rattle.geometry.specs.declared.Quad.{Quad}
use Rattle.arclen.specs.Rk4.{moved, grown_all, rk4, walk}
use Rattle.arclen.specs.Arclen.{arclen_functor_of, deriv_of, speed_of, arclen_of}
use Rattle.lookup.specs.Lookup.{looked_up}
use Rattle.measure.specs.Measure.{error_of, apply_of, stretch_of, walked_by, measure_of}
use Rattle.std.specs.Prelude.{Some, None}

-- n / d, rounded
abbrev num : ℕ → ℕ → Float
num n d = round binary64 false n d

abbrev whole : ℕ → ℕ → Point
whole a b = record { x = num a 1; y = num b 1 }

-- six samples along the x axis, and a quad that rises above them and comes back
abbrev samples : List (List Float)
samples = map (λ n. num n 1 ∷ nought ∷ one ∷ nought ∷ []) (0 ∷ 1 ∷ 2 ∷ 3 ∷ 4 ∷ 5 ∷ [])

abbrev arch : Quad
arch = record { p0 = whole 0 0; p1 = whole 2 1; p2 = whole 4 0 }

-- against all six 1.5588225325488967; against the first four the work meets the last stored place
errors : measure_of samples nought four arch ∷ measure_of (take 4 samples) nought four arch ∷ [] ≡ Some (record { error = of_bits binary64 0x3ff8_f0ef_e559_0be8 }) ∷ None ∷ []
unfolding close_to tiny abs_of whole_by moved grown_all rk4 walk arclen_functor_of deriv_of speed_of arclen_of looked_up error_of apply_of stretch_of walked_by measure_of root_of root_units root_near root_down Ieee.of_bits Ieee.round Ieee.size Ieee.add Ieee.sub Ieee.mul Ieee.div Ieee.lt Ieee.to_unsigned
errors = refl
