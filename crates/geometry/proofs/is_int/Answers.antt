-- `geometry::is_int` meets its contract. Assumes nothing.
use Rattle.std.proofs.Common.{sym, ◌∙◌}
use lib.Ieee.{binary64}
use lib.Ieee.Fits.{sub-fits}
use Rattle.float.proofs.Zeros.{is_nought}
use Rattle.geometry.proofs.Whole.{zero_close}
use Rattle.geometry.proofs.is_int.Goals as goal

pub returns-then-d : goal.returns-then-d
returns-then-d c =
    c.if-d.true
    ∙ sym (zero_close (is_nought _ (sub-fits binary64 _ _) (rw c.floor.ensures at c.if-d.true)))

pub returns-else-d : goal.returns-else-d
returns-else-d c = c.is_close.ensures ∙ rw c.floor.ensures
