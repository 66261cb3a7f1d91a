-- `gliftext::word::feed_number` meets its contract. Assumes nothing.
use Rattle.gliftext.specs.Words.{fed_number}
use Rattle.gliftext.proofs.word.feed_number.Goals as goal

pub returns : goal.returns
unfolding fed_number
returns c = cc
