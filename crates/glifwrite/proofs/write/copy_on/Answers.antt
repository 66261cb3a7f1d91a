-- `glifwrite::write::copy_on` meets its contract. Assumes nothing.
use mathlib.Core.Path.{◌∙◌}
use Rattle.glifwrite.proofs.Copying.{copy_is}
use Rattle.glifwrite.proofs.write.copy_on.Goals as goal

pub shape_of-out : goal.shape_of-out
shape_of-out c = c.put_contour-b.auto.out ∙ c.put_range-a.auto.out

pub returns : goal.returns
returns c = copy_is _ _ _ _ _ _ _ _ _ _ c.both-opens.ensures c.both-closes.ensures c.pick-tag.ensures c.more.ensures c.pick.ensures c.put_range-a.ensures c.end_at.ensures c.pick-to.ensures c.start_of.ensures c.put_contour-b.ensures c.pick-2.ensures (c.pick-3.ensures ∙ rw c.more-2.ensures)
