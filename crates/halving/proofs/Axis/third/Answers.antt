use mathlib.Core.Path.{refl}
use Rattle.halving.specs.Steps.{third_of}
use Rattle.halving.proofs.Axis.third.Goals as goal

pub returns : goal.returns
unfolding third_of
returns c = refl
