-- `contour::close` meets its contract. Assumes nothing.
use Rattle.contour.proofs.Closing.{over_closed, none_closed, all_closed}
use Rattle.contour.proofs.close.Goals as goal

pub returns-then-w : goal.returns-then-w
returns-then-w c = over_closed _ _ _ c.if-w.true

pub returns-then-w-eq0 : goal.returns-then-w-eq0
returns-then-w-eq0 c = none_closed _ _ _ c.if-w.false c.if-w-eq0.true c.push.ensures

pub returns-then-w-points : goal.returns-then-w-points
returns-then-w-points c = all_closed _ _ _ c.if-w-eq0.false c.if-w.false c.put_first.ensures
