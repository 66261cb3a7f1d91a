-- `glifwrite::put::put_number` meets its contract. Assumes nothing.
use mir.Syntax.{w16}
use mir.Facts.{to_z-of_z}
use Rattle.glifwrite.proofs.Putting.{number_is}
use Rattle.glifwrite.proofs.put.put_number.Goals as goal

pub shape_of-out : goal.shape_of-out
shape_of-out c = c.put_range.auto.out

pub returns : goal.returns
returns c = number_is _ _ (to_z-of_z {w = w16} {z = c.args.v} c.ranges.v) c.put_signed-n.ensures c.put_range.ensures
