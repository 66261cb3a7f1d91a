-- `glif::tree::leave` meets its contract. Assumes nothing.
use Rattle.glif.specs.Tree.{left}
use Rattle.glif.proofs.tree.leave.Goals as goal

pub returns : goal.returns
unfolding left
returns c = cc
