-- `gliftext::word::is_char` meets its contract. Assumes nothing.
use Rattle.gliftext.specs.Words.{is_char}
use Rattle.gliftext.proofs.word.is_char.Goals as goal

pub returns : goal.returns
unfolding is_char
returns c = cc
