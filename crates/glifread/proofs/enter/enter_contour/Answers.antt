-- `glifread::enter::enter_contour` meets its contract. Assumes nothing.
use mathlib.Core.Path.{◌∙◌}
use Rattle.glifread.proofs.Entering.{contour_is}
use Rattle.glifread.proofs.enter.enter_contour.Goals as goal

pub shape_of-xs : goal.shape_of-xs
shape_of-xs c = c.enter_places-end.auto.xs ∙ c.enter_places-middle.auto.xs

pub shape_of-ys : goal.shape_of-ys
shape_of-ys c = c.enter_places-end.auto.ys ∙ c.enter_places-middle.auto.ys

pub shape_of-flags : goal.shape_of-flags
shape_of-flags c = c.enter_places-end.auto.flags ∙ c.enter_places-middle.auto.flags

pub returns : goal.returns
returns c = contour_is _ _ _ _ _ c.seek-on.ensures c.enter_places-middle.ensures c.enter_places-end.ensures
