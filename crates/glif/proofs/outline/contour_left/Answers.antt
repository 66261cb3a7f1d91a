-- `glif::outline::contour_left` meets its contract. Assumes nothing.
use Rattle.glif.specs.Outline.{contour_left}
use Rattle.glif.proofs.outline.contour_left.Goals as goal

pub returns : goal.returns
unfolding contour_left
returns c = cc
