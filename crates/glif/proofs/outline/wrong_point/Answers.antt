-- `glif::outline::wrong_point` meets its contract. Assumes nothing.
use Rattle.glif.specs.Outline.{wrong_point}
use Rattle.glif.proofs.outline.wrong_point.Goals as goal

pub returns : goal.returns
unfolding wrong_point
returns c = cc
