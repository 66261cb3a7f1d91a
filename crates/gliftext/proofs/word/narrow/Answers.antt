-- `gliftext::word::narrow` meets its contract. Assumes nothing.
use Rattle.gliftext.specs.Pick.{pick}
use Rattle.gliftext.specs.Words.{narrowed}
use borrow.Author.Tests.{lt-ltb, le-ltb}
use Rattle.gliftext.proofs.word.narrow.Goals as goal

pub returns-then-n-lt256 : goal.returns-then-n-lt256
unfolding narrowed pick
returns-then-n-lt256 c = rw (lt-ltb _ _ c.if-n-lt256.true)

pub returns-else-n-lt256 : goal.returns-else-n-lt256
unfolding narrowed pick
returns-else-n-lt256 c = rw (le-ltb _ _ c.if-n-lt256.false)
