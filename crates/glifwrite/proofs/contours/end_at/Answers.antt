-- `glifwrite::contours::end_at` meets its contract. Assumes nothing.
use borrow.Author.Tests.{lt-ltb, le-ltb}
use Rattle.gliftext.specs.Pick.{pick}
use Rattle.glifwrite.specs.Contours.{end_at}
use Rattle.glifwrite.proofs.contours.end_at.Goals as goal

pub returns-then-k-ends : goal.returns-then-k-ends
unfolding end_at pick
returns-then-k-ends c = rw (c.plus.ensures, c.from.ensures, lt-ltb _ _ c.if-k-ends.true)

pub returns-else-k-ends : goal.returns-else-k-ends
unfolding end_at pick
returns-else-k-ends c = rw (le-ltb _ _ c.if-k-ends.false)
