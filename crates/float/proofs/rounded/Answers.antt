-- `float::rounded` meets its contract: the test is the definition's. Assumes nothing.
use Rattle.std.proofs.Common.{le-ltb, lt-ltb}
use Rattle.float.proofs.rounded.Goals as goal

pub returns-then-q-d : goal.returns-then-q-d
returns-then-q-d c = rw (lt-ltb _ _ c.if-q-d.true)

pub returns-else-q-d : goal.returns-else-q-d
returns-else-q-d c = rw (le-ltb _ _ c.if-q-d.false)
