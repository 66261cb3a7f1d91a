-- `optimize::mark_straight` meets its contract. Assumes nothing.
use Rattle.optimize.proofs.Marking.{unmarked}
use Rattle.optimize.proofs.mark_straight.Goals as goal

pub returns-then-is_whole : goal.returns-then-is_whole
returns-then-is_whole c = c.mark.ensures

pub returns-else-is_whole : goal.returns-else-is_whole
returns-else-is_whole c = λ f n room into st rep. unmarked rep
