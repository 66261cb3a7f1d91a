-- `glyfread::walk::fill_points` meets its contract. Assumes nothing.
use Rattle.glyfread.proofs.walk.fill_points.Goals as goal

pub returns : goal.returns
returns c = record {
  xs_after = c.walk_points.ensures.walked.in_xs c.requires.from_value c.requires.roomy;
  ys_after = c.walk_points.ensures.walked.in_ys c.requires.from_value c.requires.roomy;
  flags_after = c.walk_points.ensures.walked.in_fs c.requires.from_value c.requires.roomy;
}
