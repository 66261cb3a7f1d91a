use Rattle.std.proofs.Common.{Some, ap, arith, rules, w16, le-leb}
use borrow.Author.Tests.{lt-leb}
use mir.Facts.{to_z_pos}
use Rattle.lines.specs.Steps.{from_zero}
use Rattle.lines.proofs.word.from_zero.Goals as goal

pub returns-in_err-v : goal.returns-in_err-v
unfolding from_zero
returns-in_err-v c = search rules

pub returns-then-v-le32767 : goal.returns-then-v-le32767
unfolding from_zero
returns-then-v-le32767 c = rw (c.in_ok-v.was, le-leb _ _ c.if-v-le32767.true) (ap (λ z. Some z) (to_z_pos w16 (omega arith)))

pub returns-else-v-le32767 : goal.returns-else-v-le32767
unfolding from_zero
returns-else-v-le32767 c = rw (c.in_ok-v.was, lt-leb _ _ c.if-v-le32767.false)
