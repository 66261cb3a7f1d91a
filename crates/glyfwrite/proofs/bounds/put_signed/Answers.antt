-- `glyfwrite::bounds::put_signed` meets its contract. Assumes nothing.
use Rattle.glyfwrite.proofs.Outer.{signed_word}
use Rattle.glyfwrite.proofs.Taking.{copied}
use Rattle.glyfwrite.proofs.bounds.put_signed.Goals as goal

pub returns : goal.returns
returns c = rw (← signed_word (copied c.ranges.z) c.between.ensures c.long.ensures) c.put_word.ensures
