-- `gliftext::text::kind_after` meets its contract. Assumes nothing.
use Rattle.gliftext.specs.Pick.{pick}
use Rattle.gliftext.proofs.text.kind_after.Goals as goal

pub returns-then-ends : goal.returns-then-ends
unfolding pick
returns-then-ends c = rw (c.if-ends.true, c.kind_of.ensures)

pub returns-else-ends : goal.returns-else-ends
unfolding pick
returns-else-ends c = rw c.if-ends.false
