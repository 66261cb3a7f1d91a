-- `float::of_bits` meets its contract. Assumes nothing.
use Rattle.std.proofs.Common.{arith}
use lib.Bits.{and_mask}
use lib.Ieee.{of_bits, div}
use Rattle.float.proofs.Pattern.{no_nan, is_nan_lem}
use Rattle.float.proofs.of_bits.Goals as goal

pub float_from_bits-result : goal.float_from_bits-result
float_from_bits-result c = no_nan _ (omega (arith, and_mask c.args.b 63))

pub returns-then-b-gt9218868437227405312 : goal.returns-then-b-gt9218868437227405312
unfolding of_bits div
returns-then-b-gt9218868437227405312 c = is_nan_lem c.args.b (omega (arith, and_mask c.args.b 63))
