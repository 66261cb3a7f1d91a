-- `glif::outline::end_contour` meets its contract. Assumes nothing.
use Rattle.glif.specs.Outline.{ended}
use Rattle.glif.proofs.outline.end_contour.Goals as goal

pub returns : goal.returns
unfolding ended
returns c = cc
