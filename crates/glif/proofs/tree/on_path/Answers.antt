-- `glif::tree::on_path` meets its contract. Assumes nothing.
use Rattle.glif.specs.Tree.{on_path}
use Rattle.glif.proofs.tree.on_path.Goals as goal

pub returns : goal.returns
unfolding on_path
returns c = cc
