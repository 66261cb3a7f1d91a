-- `quickmeasure::well_before` meets its contract: each test is one of its facts. Assumes nothing.
use native.Mathlib.Omega.{arith}
use lib.Dec.{le→leb}
use lib.Ieee.{in_float}
use Rattle.quickmeasure.proofs.well_before.Goals as goal

pub int_to_float-result : goal.int_to_float-result
unfolding in_float
int_to_float-result c = le→leb _ _ (omega arith)
