-- `glyfwrite::write::put_points` meets its contract. Assumes nothing.
use mathlib.Core.Path.{◌∙◌}
use Rattle.glyfwrite.proofs.Putting.{then, same_row}
use Rattle.glyfwrite.proofs.write.put_points.Goals as goal

pub shape_of-out : goal.shape_of-out
shape_of-out c = same_row c.put_steps.ensures.put ∙ same_row c.put_steps-ys_at.ensures.put ∙ same_row c.put_flags-xs_at.ensures.put

pub returns : goal.returns
returns c = then c.put_flags-xs_at.ensures.put (then c.put_steps-ys_at.ensures.put c.put_steps.ensures.put)
