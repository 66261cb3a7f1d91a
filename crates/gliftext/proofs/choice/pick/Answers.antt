-- `gliftext::choice::pick` meets its contract. Assumes nothing.
use Rattle.gliftext.specs.Pick.{pick}
use Rattle.gliftext.proofs.choice.pick.Goals as goal

pub returns-then-c : goal.returns-then-c
unfolding pick
returns-then-c g c = rw c.if-c.true

pub returns-else-c : goal.returns-else-c
unfolding pick
returns-else-c g c = rw c.if-c.false
