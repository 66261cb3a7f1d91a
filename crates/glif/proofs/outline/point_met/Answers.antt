-- `glif::outline::point_met` meets its contract. Assumes nothing.
use Rattle.glif.specs.Outline.{point_met}
use Rattle.glif.proofs.outline.point_met.Goals as goal

pub returns : goal.returns
unfolding point_met
returns c = cc
