-- `quickmeasure::turned` meets its contract, by the law `turned_off`. Assumes nothing.
use Rattle.quickmeasure.proofs.Outset.{turned_off}
use Rattle.quickmeasure.proofs.turned.Goals as goal

pub returns-then-is_straight : goal.returns-then-is_straight
returns-then-is_straight c h =
    turned_off (rw (c.deriv-d.ensures, c.new-f.ensures) at (c.is_off.ensures h))
