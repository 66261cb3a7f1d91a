use Rattle.halving.specs.Steps.{bent_of}
use Rattle.halving.proofs.Axis.is_bent.Goals as goal

pub returns : goal.returns
unfolding bent_of
returns c = cc
