-- `glifwrite::put::put_point` meets its contract. Assumes nothing.
use mir.Syntax.{w16}
use mir.Facts.{to_z-of_z}
use mathlib.Core.Path.{◌∙◌}
use Rattle.glifwrite.proofs.Putting.{point_is}
use Rattle.glifwrite.proofs.put.put_point.Goals as goal

pub shape_of-out : goal.shape_of-out
shape_of-out c = c.put_kind.auto.out ∙ c.put_range-e.auto.out ∙ c.put_number-d.auto.out ∙ c.put_range-c.auto.out ∙ c.put_number-b.auto.out ∙ c.put_range-a.auto.out

pub returns : goal.returns
returns c = point_is _ _ _ _ _ (to_z-of_z {w = w16} {z = c.args.x}
    c.ranges.x) (to_z-of_z {w = w16} {z = c.args.y} c.ranges.y) c.put_range-a.ensures c.put_number-b.ensures c.put_range-c.ensures c.put_number-d.ensures c.put_range-e.ensures c.put_kind.ensures
