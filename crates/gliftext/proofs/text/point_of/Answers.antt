-- `gliftext::text::point_of` meets its contract. Assumes nothing.
use Rattle.gliftext.specs.Text.{pointed}
use Rattle.gliftext.proofs.text.point_of.Goals as goal

pub returns : goal.returns
unfolding pointed
returns c = cc
