-- `gliftext::choice::more` meets its contract. Assumes nothing.
use Rattle.gliftext.specs.Pick.{pick, more}
use borrow.Author.Tests.{lt-ltb, le-ltb}
use Rattle.gliftext.proofs.choice.more.Goals as goal

pub returns-then-a-lt18446744073709551615 : goal.returns-then-a-lt18446744073709551615
unfolding more pick
returns-then-a-lt18446744073709551615 c = rw (lt-ltb _ _ c.if-a-lt18446744073709551615.true)

pub returns-else-a-lt18446744073709551615 : goal.returns-else-a-lt18446744073709551615
unfolding more pick
returns-else-a-lt18446744073709551615 c = rw (le-ltb _ _ c.if-a-lt18446744073709551615.false)
