-- `glif::outline::keep_point` meets its contract. Assumes nothing.
use Rattle.glif.specs.Outline.{kept_point}
use Rattle.glif.proofs.outline.keep_point.Goals as goal

pub shape_of-points : goal.shape_of-points
shape_of-points c = c.store.auto.row

pub returns : goal.returns
unfolding kept_point
returns c = cc
