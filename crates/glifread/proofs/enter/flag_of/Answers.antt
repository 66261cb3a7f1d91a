-- `glifread::enter::flag_of` meets its contract. Assumes nothing.
use Rattle.gliftext.specs.Pick.{pick}
use Rattle.glifread.specs.Enter.{flag_of}
use Rattle.glifread.proofs.enter.flag_of.Goals as goal

pub returns-then-off : goal.returns-then-off
unfolding flag_of pick
returns-then-off c = rw c.if-off.true

pub returns-else-off : goal.returns-else-off
unfolding flag_of pick
returns-else-off c = rw c.if-off.false
