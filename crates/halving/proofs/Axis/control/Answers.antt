use mathlib.Core.Path.{refl}
use Rattle.halving.specs.Steps.{control_of}
use Rattle.halving.proofs.Axis.control.Goals as goal

pub returns : goal.returns
unfolding control_of
returns c = refl
