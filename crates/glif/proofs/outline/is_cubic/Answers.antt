-- `glif::outline::is_cubic` meets its contract. Assumes nothing.
use Rattle.glif.specs.Outline.{cubic_of}
use Rattle.glif.proofs.outline.is_cubic.Goals as goal

pub returns : goal.returns
unfolding cubic_of
returns c = cc
