-- `glifwrite::contours::put_place` meets its contract. Assumes nothing.
use borrow.Author.Rules.{sfits_of}
use mir.Syntax.{w16}
use mir.Facts.{to_z-of_z}
use mathlib.Core.Path.{◌∙◌}
use Rattle.glifwrite.proofs.Putting.{place_is}
use Rattle.glifwrite.proofs.contours.put_place.Goals as goal

pub shape_of-out : goal.shape_of-out
shape_of-out c = c.put_point.auto.out

pub returns : goal.returns
returns c = place_is _ _ _ _ _ _ _ c.less.ensures c.less-2.ensures c.pick-last.ensures c.is_on-before.ensures (to_z-of_z {w = w16} {z = c.at.result} (sfits_of c.at.type_inv) ∙ c.at.ensures) (to_z-of_z {w = w16} {z = c.at-2.result} (sfits_of c.at-2.type_inv) ∙ c.at-2.ensures) c.is_on.ensures c.put_point.ensures
