-- `glif::outline::mark_of` meets its contract. Assumes nothing.
use Rattle.glif.specs.Outline.{mark_of}
use Rattle.glif.proofs.outline.mark_of.Goals as goal

pub returns : goal.returns
unfolding mark_of
returns c = cc
