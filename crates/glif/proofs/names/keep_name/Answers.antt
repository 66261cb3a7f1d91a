-- `glif::names::keep_name` meets its contract. Assumes nothing.
use Rattle.glif.specs.Names.{kept_names}
use Rattle.glif.proofs.names.keep_name.Goals as goal

pub returns : goal.returns
unfolding kept_names
returns c = cc
