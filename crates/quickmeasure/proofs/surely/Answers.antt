-- `quickmeasure::surely` meets its contract. Assumes nothing.
use native.Mathlib.Nat.{le_trans, sub-le}
use native.Mathlib.Omega.{arith}
use lib.Dec.{le→leb}
use lib.Ieee.{in_float}
use Rattle.quickmeasure.proofs.Sure.{shown}
use Rattle.quickmeasure.proofs.surely.Goals as goal

pub int_to_float-n : goal.int_to_float-n
unfolding in_float
int_to_float-n c = le→leb _ _ (le_trans (sub-le _ _) c.if-n-gt9007199254740992.false)

pub returns : goal.returns
returns c h = shown _ _ (omega arith) (omega arith) (omega arith) _ _ (c.all_before.ensures h)
