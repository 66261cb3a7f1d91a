-- `gliftext::text::name_of` meets its contract. Assumes nothing.
use Rattle.gliftext.specs.Text.{named}
use Rattle.gliftext.proofs.text.name_of.Goals as goal

pub returns : goal.returns
unfolding named
returns c = cc
