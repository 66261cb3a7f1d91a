-- `glif::outline::is_number` meets its contract. Assumes nothing.
use Rattle.glif.specs.Outline.{is_number}
use Rattle.glif.proofs.outline.is_number.Goals as goal

pub returns : goal.returns
unfolding is_number
returns c = cc
