-- `glif::outline::add_point` meets its contract. Assumes nothing.
use Rattle.glif.specs.Outline.{with_point}
use Rattle.glif.proofs.outline.add_point.Goals as goal

pub returns : goal.returns
unfolding with_point
returns c = cc
