-- `gliftext::word::state_fed` meets its contract. Assumes nothing.
use Rattle.gliftext.proofs.word.state_fed.Goals as goal

pub returns : goal.returns
returns c = cc
