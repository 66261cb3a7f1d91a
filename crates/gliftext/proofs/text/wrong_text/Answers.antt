-- `gliftext::text::wrong_text` meets its contract. Assumes nothing.
use Rattle.gliftext.specs.Text.{wrong_text}
use Rattle.gliftext.proofs.text.wrong_text.Goals as goal

pub returns : goal.returns
unfolding wrong_text
returns c = cc
