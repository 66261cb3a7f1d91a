-- `gliftext::text::say` meets its contract. Assumes nothing.
use Rattle.gliftext.specs.Text.{said}
use Rattle.gliftext.proofs.text.say.Goals as goal

pub returns : goal.returns
unfolding said
returns c = cc
