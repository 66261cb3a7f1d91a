-- `answering::put_outcome` meets its contract. Assumes nothing.
use Rattle.lines.proofs.Texts.{joined}
use Rattle.answering.proofs.put_outcome.Goals as goal

pub put_ok-a-requires : goal.put_ok-a-requires
put_ok-a-requires c = rw c.in-Ok.is at c.requires

pub returns-in-Err : goal.returns-in-Err
returns-in-Err c = rw (c.in-Err.is, ← c.number.ensures) (joined c.put_refused-a.ensures c.put_fallen.ensures)

pub returns-in-Ok : goal.returns-in-Ok
returns-in-Ok c = rw c.in-Ok.is (joined c.put_ok-a.ensures c.put_fallen-in-Ok.ensures)
