-- `float::to_index` meets its contract. Assumes nothing.
use Rattle.std.proofs.Common.{T, sym, subst}
use lib.Ieee.{of_bits, neg}
use Rattle.float.proofs.Saturate.{low_index, high_index}
use Rattle.float.proofs.to_index.Goals as goal

pub truncating_f64_to_u64-requires : goal.truncating_f64_to_u64-requires
unfolding of_bits neg
truncating_f64_to_u64-requires c = record { lower_bound = subst T (sym c.if-x.true) tt; upper_bound = subst T (sym c.if-x-2.true) tt }

pub returns-else-x-2 : goal.returns-else-x-2
unfolding of_bits neg
returns-else-x-2 c = high_index _ c.if-x.true c.if-x-2.false

pub returns-else-x : goal.returns-else-x
unfolding of_bits neg
returns-else-x c = low_index _ c.if-x.false
