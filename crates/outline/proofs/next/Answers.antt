-- `corners::next` meets its contract. Assumes nothing.
use Rattle.outline.proofs.Laws.{next_none, next_more, next_first}
use Rattle.outline.proofs.next.Goals as goal

pub returns-then-n-eq0 : goal.returns-then-n-eq0
returns-then-n-eq0 c = next_none _ _ c.if-n-eq0.true

pub returns-then-i-n : goal.returns-then-i-n
returns-then-i-n c = next_more _ _ c.if-i-n.true

pub returns-else-i-n : goal.returns-else-i-n
returns-else-i-n c = next_first _ _ c.if-i-n.false
