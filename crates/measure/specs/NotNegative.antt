-- What is not negative: a sum of such numbers is one, and so is each measure. Definitions only.
use Rattle.std.specs.Prelude.{Bool, true, not, ◌≡◌, List, T, Float, Some}
use Rattle.std.specs.Float.{nan, inf, fin}
use Rattle.geometry.specs.declared.Quad.{Quad}
use Rattle.measure.specs.Measure.{measure_of}
use Rattle.measure.specs.Fallen.{fallen_of}

-- its sign is plus, or it is a NaN
abbrev pub not_negative : Float → Bool
not_negative nan = true
not_negative (inf s) = not s
not_negative (fin s m e) = not s

-- every sample asked for is there, the error is not negative, and no lookup falls
pub record Measurable (row : List (List Float)) (s0 s1 : Float) (q : Quad) : Type 0 where
  pub error : Float
  pub is : measure_of row s0 s1 q ≡ Some (record { error = error })
  pub sign : T (not_negative error)
  pub none : fallen_of row s0 s1 q ≡ 0
