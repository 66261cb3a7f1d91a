-- `glif::outline::offset_of` meets its contract. Assumes nothing.
use Rattle.glif.specs.Outline.{offset_of}
use Rattle.glif.proofs.outline.offset_of.Goals as goal

pub returns : goal.returns
unfolding offset_of
returns c = cc
