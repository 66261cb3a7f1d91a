-- `gliftext::choice::plus` meets its contract. Assumes nothing.
use Rattle.gliftext.specs.Pick.{pick}
use Rattle.gliftext.specs.Pick.{sum}
use borrow.Author.Tests.{le-leb, lt-leb}
use Rattle.gliftext.proofs.choice.plus.Goals as goal

pub returns-then-a-b : goal.returns-then-a-b
unfolding sum pick
returns-then-a-b c = rw (le-leb _ _ c.if-a-b.true)

pub returns-else-a-b : goal.returns-else-a-b
unfolding sum pick
returns-else-a-b c = rw (lt-leb _ _ c.if-a-b.false)
