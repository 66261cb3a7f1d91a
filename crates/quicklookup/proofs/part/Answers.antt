-- `quicklookup::part` meets its contract, by the law `fraction`. Assumes nothing.
use Prim.Native.Nat.{◌^◌}
use native.Mathlib.Omega.{arith}
use lib.Dec.{le→leb}
use lib.Ieee.{in_float}
use Rattle.quicklookup.proofs.Fraction.{fraction}
use Rattle.quicklookup.proofs.part.Goals as goal

pub int_to_float-result : goal.int_to_float-result
unfolding in_float
int_to_float-result c = le→leb c.args.b (2 ^ 53) (omega arith)

pub returns-then-b-lt9007199254740992 : goal.returns-then-b-lt9007199254740992
returns-then-b-lt9007199254740992 c = fraction _ _ c.if-s.true c.requires c.if-b-lt9007199254740992.true
