-- `float::with_sign` meets its contract. Assumes nothing.
use lib.Ieee.{of_bits}
use Rattle.float.proofs.Whole.{exact, negative, positive, neither}
use Rattle.float.proofs.with_sign.Goals as goal

pub int_to_float-result : goal.int_to_float-result
int_to_float-result c = exact _ c.requires

pub int_to_float-result-then-x-2 : goal.int_to_float-result-then-x-2
int_to_float-result-then-x-2 c = exact _ c.requires

pub returns-then-x : goal.returns-then-x
unfolding of_bits
returns-then-x c = negative _ _ c.if-x.true

pub returns-then-x-2 : goal.returns-then-x-2
unfolding of_bits
returns-then-x-2 c = positive _ _ c.if-x-2.true

pub returns-else-x-2 : goal.returns-else-x-2
unfolding of_bits
returns-else-x-2 c = neither _ _ c.if-x.false c.if-x-2.false
