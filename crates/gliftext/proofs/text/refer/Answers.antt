-- `gliftext::text::refer` meets its contract. Assumes nothing.
use Rattle.gliftext.specs.Text.{referred}
use Rattle.gliftext.proofs.text.refer.Goals as goal

pub returns : goal.returns
unfolding referred
returns c = cc
