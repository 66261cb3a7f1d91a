-- `glifwrite::contours::is_on` meets its contract. Assumes nothing.
use mathlib.Core.Path.{refl}
use lib.ListN.{get_or-eq_default}
use Rattle.glifwrite.specs.Contours.{is_on}
use Rattle.glifwrite.proofs.contours.is_on.Goals as goal

pub returns-then-i-flags : goal.returns-then-i-flags
unfolding is_on
returns-then-i-flags c = refl

pub returns-else-i-flags : goal.returns-else-i-flags
unfolding is_on
returns-else-i-flags c = rw (get_or-eq_default c.args.flags.now 0 c.if-i-flags.false)
