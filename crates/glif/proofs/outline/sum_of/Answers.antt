-- `glif::outline::sum_of` meets its contract. Assumes nothing.
use Rattle.glif.specs.Outline.{summed}
use Rattle.glif.proofs.outline.sum_of.Goals as goal

pub returns : goal.returns
unfolding summed
returns c = cc
