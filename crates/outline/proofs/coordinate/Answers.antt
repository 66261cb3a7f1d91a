-- `corners::coordinate` meets its contract. Assumes nothing.
use Rattle.std.proofs.Common.{pos}
use lib.ListN.{get_or-eq_default}
use Rattle.outline.proofs.Laws.{zero_is}
use Rattle.outline.proofs.coordinate.Goals as goal

pub returns-else-i-row : goal.returns-else-i-row
returns-else-i-row c = rw (get_or-eq_default _ (pos 0) c.if-i-row.false) zero_is
