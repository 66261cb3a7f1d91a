-- `glif::names::wrong_names` meets its contract. Assumes nothing.
use Rattle.glif.specs.Names.{wrong_names}
use Rattle.glif.proofs.names.wrong_names.Goals as goal

pub returns : goal.returns
unfolding wrong_names
returns c = rw (c.either.ensures, c.repeats.ensures, c.unclosed-end.ensures)
