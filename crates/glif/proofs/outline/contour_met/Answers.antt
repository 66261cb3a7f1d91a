-- `glif::outline::contour_met` meets its contract. Assumes nothing.
use Rattle.glif.specs.Outline.{contour_met}
use Rattle.glif.proofs.outline.contour_met.Goals as goal

pub returns : goal.returns
unfolding contour_met
returns c = cc
