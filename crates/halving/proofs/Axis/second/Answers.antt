use Rattle.halving.specs.Steps.{second_of}
use Rattle.halving.proofs.Axis.second.Goals as goal

pub returns : goal.returns
unfolding second_of
returns c = cc
