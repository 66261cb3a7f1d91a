-- `glif::outline::begin_contour` meets its contract. Assumes nothing.
use Rattle.glif.specs.Outline.{begun}
use Rattle.glif.proofs.outline.begin_contour.Goals as goal

pub returns : goal.returns
unfolding begun
returns c = cc
