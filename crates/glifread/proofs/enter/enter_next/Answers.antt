-- `glifread::enter::enter_next` meets its contract. Assumes nothing.
use Rattle.glifread.proofs.Entering.{next_is}
use Rattle.glifread.proofs.enter.enter_next.Goals as goal

pub shape_of-ends : goal.shape_of-ends
shape_of-ends c = c.store.auto.row

pub shape_of-xs : goal.shape_of-xs
shape_of-xs c = c.enter_contour-at.auto.xs

pub shape_of-ys : goal.shape_of-ys
shape_of-ys c = c.enter_contour-at.auto.ys

pub shape_of-flags : goal.shape_of-flags
shape_of-flags c = c.enter_contour-at.auto.flags

pub returns : goal.returns
returns c = next_is _ _ _ _ _ _ c.more.ensures c.seek-to.ensures c.enter_contour-at.ensures c.end_of.ensures c.store.ensures
