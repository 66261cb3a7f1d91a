-- `glif::names::repeats` meets its contract. Assumes nothing.
use Rattle.glif.specs.Names.{repeated}
use Rattle.glif.proofs.names.repeats.Goals as goal

pub returns : goal.returns
unfolding repeated
returns c = cc
