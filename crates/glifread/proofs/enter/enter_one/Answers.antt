-- `glifread::enter::enter_one` meets its contract. Assumes nothing.
use mathlib.Core.Path.{◌∙◌}
use Rattle.glifread.proofs.Entering.{one_is}
use Rattle.glifread.proofs.enter.enter_one.Goals as goal

pub shape_of-xs : goal.shape_of-xs
shape_of-xs c = c.put-2.auto.xs ∙ c.put.auto.xs

pub shape_of-ys : goal.shape_of-ys
shape_of-ys c = c.put-2.auto.ys ∙ c.put.auto.ys

pub shape_of-flags : goal.shape_of-flags
shape_of-flags c = c.put-2.auto.flags ∙ c.put.auto.flags

pub returns : goal.returns
returns c = one_is _ _ _ c.is_off-off.ensures c.both-between.ensures c.pick-place.ensures c.middle.ensures c.middle-2.ensures c.put.ensures c.more.ensures
    c.pick-at.ensures c.put-2.ensures c.more-2.ensures
