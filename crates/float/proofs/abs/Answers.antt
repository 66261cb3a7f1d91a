-- `float::abs` meets its contract: each arm returns |x| by what the tests found. Assumes nothing.
use Rattle.std.proofs.Common.{T, sym, subst}
use lib.Ieee.{of_bits}
use Rattle.float.proofs.Sign.{negative, null, positive}
use Rattle.float.proofs.abs.Goals as goal

pub returns-then-x : goal.returns-then-x
unfolding of_bits
returns-then-x c = negative _ c.if-x.true

pub returns-then-x-2 : goal.returns-then-x-2
unfolding of_bits
returns-then-x-2 c = null _ (subst T (sym c.well_formed.0.1) tt) c.if-x-2.true

pub returns-else-x-2 : goal.returns-else-x-2
unfolding of_bits
returns-else-x-2 c = positive _ c.if-x.false c.if-x-2.false
