use Rattle.halving.specs.Steps.{first_of}
use Rattle.halving.proofs.Axis.first.Goals as goal

pub returns : goal.returns
unfolding first_of
returns c = cc
