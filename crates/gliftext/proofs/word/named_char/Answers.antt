-- `gliftext::word::named_char` meets its contract. Assumes nothing.
use Rattle.gliftext.specs.Words.{named_char}
use Rattle.gliftext.proofs.word.named_char.Goals as goal

pub returns : goal.returns
unfolding named_char
returns c = cc
