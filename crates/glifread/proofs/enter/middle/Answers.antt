-- `glifread::enter::middle` meets its contract. Assumes nothing.
use Rattle.glifread.specs.Enter.{middle_of}
use Rattle.glifread.proofs.enter.middle.Goals as goal

pub returns : goal.returns
unfolding middle_of
returns c = rw (c.pick.ensures, c.more.ensures, c.plus-sum.ensures)
