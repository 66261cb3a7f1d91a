-- `optimize::mark_bent` meets its contract. Assumes nothing.
use Rattle.optimize.proofs.Trying.{reads_both}
use Rattle.optimize.proofs.Marking.{unmarked}
use Rattle.optimize.proofs.mark_bent.Goals as goal

pub find_bend-requires : goal.find_bend-requires
find_bend-requires c = reads_both c.requires

pub returns-in_default : goal.returns-in_default
returns-in_default c = λ f n room into st rep. unmarked rep

pub returns : goal.returns
returns c = c.mark.ensures
