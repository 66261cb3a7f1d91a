-- `contour::before` meets its contract. Assumes nothing.
use Rattle.contour.proofs.Dropping.{previous_first, previous_later}
use Rattle.contour.proofs.before.Goals as goal

pub returns-then-i-eq0 : goal.returns-then-i-eq0
returns-then-i-eq0 c = previous_first _ _ c.if-i-eq0.true

pub returns-else-i-eq0 : goal.returns-else-i-eq0
returns-else-i-eq0 c = previous_later _ _ c.if-i-eq0.false
