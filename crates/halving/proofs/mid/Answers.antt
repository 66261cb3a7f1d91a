use mathlib.Core.Path.{refl}
use Rattle.halving.specs.Steps.{mid_of}
use Rattle.halving.proofs.mid.Goals as goal

pub returns : goal.returns
unfolding mid_of
returns c = refl
