-- `quickroot::digits` meets its contract. Assumes nothing.
use Rattle.std.proofs.Common.{arith}
use lib.Bits.{mask_lt}
use lib.Ieee.{binary64, to_bits}
use Rattle.float.proofs.Number.{more}
use Rattle.quickroot.proofs.digits.Goals as goal

pub float_to_bits-result : goal.float_to_bits-result
float_to_bits-result c = more _ _ c.if-z.true

pub overflow_add-result : goal.overflow_add-result
overflow_add-result c = omega (arith, mask_lt (to_bits binary64 c.args.z) 52)

pub returns-then-z : goal.returns-then-z
returns-then-z c = (omega arith, omega (arith, mask_lt (to_bits binary64 c.args.z) 52))
