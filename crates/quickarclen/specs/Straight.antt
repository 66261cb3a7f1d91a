-- The derivative of a straight piece is one all along. Definitions only, for the contracts.
use Rattle.std.specs.Prelude.{true, ◌≡◌, T, Float}
use Rattle.std.specs.Float.{binary64}
use Rattle.std.specs.Float.Ieee.{fits, sub, eq}
use Rattle.float.specs.Numbers.{nought}
use Rattle.arclen.specs.declared.ArclenFunctor.{ArclenFunctor}

-- what goes from a to b does not move
pub record Unmoved (a b : Float) : Type 0 where
  pub whole : T (fits binary64 a)
  pub none : eq (sub binary64 b a) nought ≡ true

-- nor does the derivative
pub record Straight (f : ArclenFunctor) : Type 0 where
  pub across : Unmoved f.dx0 f.dx1
  pub upward : Unmoved f.dy0 f.dy1
