-- `quickmeasure::shows` meets its contract: where the samples reach far, by `shows_any` and the law `seen_even`, and by roots else. Assumes nothing.
use Rattle.quickmeasure.proofs.Sure.{shows_by}
use Rattle.quickmeasure.proofs.Even.{seen_even}
use Rattle.quickmeasure.proofs.shows.Goals as goal

pub returns-then-is_even : goal.returns-then-is_even
returns-then-is_even c h =
    seen_even _ _ _ _ (c.well_before.ensures c.if-well_before.true) (rw c.new.ensures at (c.is_even.ensures c.if-is_even.true))

pub returns : goal.returns
returns c h =
    shows_by _ c.set_out-m.ensures.0 c.set_out-m.ensures.1 (c.surely.ensures h)
