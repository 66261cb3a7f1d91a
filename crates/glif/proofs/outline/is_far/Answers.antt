-- `glif::outline::is_far` meets its contract. Assumes nothing.
use Rattle.glif.specs.Outline.{is_far}
use Rattle.glif.proofs.outline.is_far.Goals as goal

pub returns : goal.returns
unfolding is_far
returns c = cc
