-- `glif::tree::opens_tag` meets its contract. Assumes nothing.
use Rattle.glif.specs.Tree.{opens_tag}
use Rattle.glif.proofs.tree.opens_tag.Goals as goal

pub returns : goal.returns
unfolding opens_tag
returns c = cc
