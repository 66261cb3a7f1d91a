-- `glyfwrite::put::put_byte` meets its contract. Assumes nothing.
use Rattle.glyfwrite.proofs.Putting.{past}
use Rattle.glyfwrite.proofs.put.put_byte.Goals as goal

pub returns-then-out-at : goal.returns-then-out-at
returns-then-out-at c = past _ _ _ c.if-out-at.true
