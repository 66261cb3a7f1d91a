use Rattle.std.proofs.Common.{refl, arith}
use Rattle.lines.proofs.Texts.{joined}
use Rattle.answering.proofs.put_fallen.Goals as goal

pub returns-then-told : goal.returns-then-told
returns-then-told c = rw c.if-told.true (joined c.put_all-a.ensures c.put_number.ensures)

pub returns : goal.returns
returns c = rw c.if-told.false (record { held = refl; next = omega arith })
