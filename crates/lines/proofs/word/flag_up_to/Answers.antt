use Rattle.std.proofs.Common.{rules, le-leb}
use borrow.Author.Tests.{lt-leb}
use Rattle.lines.specs.Steps.{flag_up_to}
use Rattle.lines.proofs.word.flag_up_to.Goals as goal

pub returns-in_err-v : goal.returns-in_err-v
unfolding flag_up_to
returns-in_err-v c = search rules

pub returns-then-v-most : goal.returns-then-v-most
unfolding flag_up_to
returns-then-v-most c = rw (c.in_ok-v.was, le-leb _ _ c.if-v-most.true)

pub returns-else-v-most : goal.returns-else-v-most
unfolding flag_up_to
returns-else-v-most c = rw (c.in_ok-v.was, lt-leb _ _ c.if-v-most.false)
