-- `quickmeasure::sees_any` meets its contract. Assumes nothing.
use Rattle.quickmeasure.proofs.Sure.{measurable}
use Rattle.quickmeasure.proofs.sees_any.Goals as goal

pub returns : goal.returns
returns c h q = measurable (c.shows_any.ensures h q)
