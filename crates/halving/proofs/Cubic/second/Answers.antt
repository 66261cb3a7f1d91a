use Rattle.halving.proofs.Cubic.second.Goals as goal

pub returns : goal.returns
returns c = cc
