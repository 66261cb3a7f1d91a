-- `glyfwrite::write::put_glyph` meets its contract. Assumes nothing.
use Rattle.glyfwrite.proofs.Putting.{same_row}
use mathlib.Core.Path.{◌∙◌}
use Rattle.glyfwrite.proofs.Writing.{whole_put}
use Rattle.glyfwrite.proofs.write.put_glyph.Goals as goal

pub put_code-points_at-requires : goal.put_code-points_at-requires
put_code-points_at-requires c = (c.put_head-code_at.ensures.upper_bound, c.requires.few_bytes)

pub put_points-requires : goal.put_points-requires
put_points-requires c = (c.put_code-points_at.ensures.upper_bound, c.requires.few_points, c.requires.as_xs, c.requires.as_ys)

pub shape_of-out : goal.shape_of-out
shape_of-out c = same_row c.put_points.ensures ∙ same_row c.put_code-points_at.ensures.put ∙ same_row c.put_head-code_at.ensures.put

pub returns : goal.returns
returns c = whole_put _ _ _ _ _ c.put_head-code_at.ensures.put c.put_code-points_at.ensures.put c.put_points.ensures
