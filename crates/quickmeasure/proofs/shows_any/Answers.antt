-- `quickmeasure::shows_any` meets its contract, by the law `seen_any`. Assumes nothing.
use Rattle.quickmeasure.proofs.Anywhere.{seen_any}
use Rattle.quickmeasure.proofs.shows_any.Goals as goal

pub returns : goal.returns
returns c h q = seen_any _ _ _ _ (c.well_before.ensures h)
