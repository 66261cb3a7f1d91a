-- `quickmeasure::sees_all` meets its contract. Assumes nothing.
use Rattle.quickmeasure.proofs.Sure.{measurable}
use Rattle.quickmeasure.proofs.sees_all.Goals as goal

pub returns : goal.returns
returns c h = measurable (c.shows.ensures h)
