-- `gliftext::row::at` meets its contract. Assumes nothing.
use Rattle.std.proofs.Common.{sym}
use lib.ListN.{get_or-eq_default}
use Rattle.gliftext.proofs.row.at.Goals as goal

pub returns-else-i-row : goal.returns-else-i-row
returns-else-i-row g c = sym (get_or-eq_default c.args.row.now c.args.none c.if-i-row.false)
