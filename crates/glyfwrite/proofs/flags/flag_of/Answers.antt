-- `glyfwrite::flags::flag_of` meets its contract. Assumes nothing.
use native.Mathlib.Omega.{arith}
use Rattle.glyfwrite.specs.Differences.{flag_by}
use Rattle.glyfwrite.proofs.flags.flag_of.Goals as goal

pub returns : goal.returns
unfolding flag_by
returns c = record { value = rw (c.bits.ensures.value, c.bits-2.ensures.value); upper_bound = omega (arith, c.bits.ensures.upper_bound, c.bits-2.ensures.upper_bound) }
