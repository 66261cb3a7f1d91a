-- `glifread::enter::put` meets its contract. Assumes nothing.
use mathlib.Core.Path.{◌∙◌}
use mir.Syntax.{w16}
use mir.Facts.{to_z-of_z}
use borrow.Author.Rules.{sfits_of}
use Rattle.glifread.proofs.Entering.{put_is}
use Rattle.glifread.proofs.enter.put.Goals as goal

pub shape_of-xs : goal.shape_of-xs
shape_of-xs c = c.store.auto.row

pub shape_of-ys : goal.shape_of-ys
shape_of-ys c = c.store-2.auto.row

pub shape_of-flags : goal.shape_of-flags
shape_of-flags c = c.store-3.auto.row

pub returns : goal.returns
returns c = put_is _ _ _ _ _ _ _ (to_z-of_z {w = w16} {z = c.signed.result} (sfits_of c.signed.type_inv) ∙ c.signed.ensures) (to_z-of_z {w = w16} {z = c.signed-2.result} (sfits_of c.signed-2.type_inv) ∙ c.signed-2.ensures) c.flag_of.ensures c.store.ensures c.store-2.ensures c.store-3.ensures
