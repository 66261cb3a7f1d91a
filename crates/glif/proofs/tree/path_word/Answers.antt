-- `glif::tree::path_word` meets its contract. Assumes nothing.
use Rattle.glif.specs.Tree.{path_word}
use Rattle.glif.proofs.tree.path_word.Goals as goal

pub returns : goal.returns
unfolding path_word
returns c = cc
