-- `gliftext::text::fresh_text` meets its contract. Assumes nothing.
use Rattle.gliftext.proofs.text.fresh_text.Goals as goal

pub returns : goal.returns
returns c = cc
