use Rattle.std.proofs.Common.{rules, le-leb}
use borrow.Author.Tests.{lt-leb}
use Rattle.words.specs.Words.{sixteenths}
use Rattle.words.proofs.sixteenths.Goals as goal

pub returns-in_err-v : goal.returns-in_err-v
unfolding sixteenths
returns-in_err-v c = search rules

pub returns-then-v-le4294967295 : goal.returns-then-v-le4294967295
unfolding sixteenths
returns-then-v-le4294967295 c = rw (c.in_ok-v.was, le-leb _ _ c.if-v-le4294967295.true)

pub returns : goal.returns
unfolding sixteenths
returns c = rw (c.in_ok-v.was, lt-leb _ _ c.if-v-le4294967295.false)
