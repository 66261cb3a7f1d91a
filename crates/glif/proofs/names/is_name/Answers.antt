-- `glif::names::is_name` meets its contract. Assumes nothing.
use Rattle.gliftext.specs.Table.{is_name}
use Rattle.glif.proofs.names.is_name.Goals as goal

pub returns : goal.returns
unfolding is_name
returns c = cc
