-- `glif::tree::text_fits` meets its contract. Assumes nothing.
use Rattle.glif.specs.Tree.{text_fits}
use Rattle.glif.proofs.tree.text_fits.Goals as goal

pub returns : goal.returns
unfolding text_fits
returns c = cc
