-- `glyfread::row::signed_of` meets its contract. Assumes nothing.
use native.Mathlib.Omega.{arith}
use Rattle.glyfread.proofs.Signs.{low_half, high_fits, high_half}
use Rattle.glyfread.proofs.row.signed_of.Goals as goal

pub overflow_sub-result : goal.overflow_sub-result
overflow_sub-result c = high_fits _ (omega arith) c.if-v-lt32768.false

pub returns-then-v-lt32768 : goal.returns-then-v-lt32768
returns-then-v-lt32768 c = low_half _ (omega arith) c.if-v-lt32768.true

pub returns-else-v-lt32768 : goal.returns-else-v-lt32768
returns-else-v-lt32768 c = high_half _ (omega arith) c.if-v-lt32768.false
