-- `gliftext::text::count_attributes` meets its contract. Assumes nothing.
use Rattle.gliftext.specs.Text.{attributed}
use Rattle.gliftext.proofs.text.count_attributes.Goals as goal

pub returns : goal.returns
unfolding attributed
returns c = cc
