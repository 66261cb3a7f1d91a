use Rattle.halving.proofs.Cubic.first.Goals as goal

pub returns : goal.returns
returns c = cc
