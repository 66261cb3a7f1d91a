use Rattle.std.proofs.Common.{Some, ap, rules, le-leb}
use borrow.Author.Tests.{lt-leb}
use Rattle.lines.specs.Steps.{below_zero}
use Rattle.lines.proofs.Signs.{read_back}
use Rattle.lines.proofs.word.below_zero.Goals as goal

pub returns-in_err-v : goal.returns-in_err-v
unfolding below_zero
returns-in_err-v c = search rules

pub returns-then-v-le32768 : goal.returns-then-v-le32768
unfolding below_zero
returns-then-v-le32768 c = rw (c.in_ok-v.was, le-leb _ _ c.if-v-le32768.true) (ap (λ z. Some z) (read_back _ c.if-v-le32768.true))

pub returns-else-v-le32768 : goal.returns-else-v-le32768
unfolding below_zero
returns-else-v-le32768 c = rw (c.in_ok-v.was, lt-leb _ _ c.if-v-le32768.false)
