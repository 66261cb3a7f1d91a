-- `gliftext::word::push` meets its contract. Assumes nothing.
use Rattle.gliftext.specs.Pick.{pick}
use Rattle.gliftext.specs.Words.{pushed}
use borrow.Author.Tests.{lt-ltb, le-ltb}
use Rattle.gliftext.proofs.word.push.Goals as goal

pub returns-then-word-lt72057594037927936 : goal.returns-then-word-lt72057594037927936
unfolding pushed pick
returns-then-word-lt72057594037927936 c = rw (lt-ltb _ _ c.if-word-lt72057594037927936.true)

pub returns-else-word-lt72057594037927936 : goal.returns-else-word-lt72057594037927936
unfolding pushed pick
returns-else-word-lt72057594037927936 c = rw (le-ltb _ _ c.if-word-lt72057594037927936.false)
