-- `float::bits` meets its contract: only a NaN differs from itself. Assumes nothing.
use Rattle.std.proofs.Common.{T, sym, ap, subst}
use lib.Ieee.{binary64, to_bits}
use lib.Ieee.Compare.{differs_from_itself}
use Rattle.float.proofs.Number.{itself}
use Rattle.float.proofs.bits.Goals as goal

pub float_to_bits-result : goal.float_to_bits-result
float_to_bits-result c = itself _ c.if-x.false

pub returns-then-x : goal.returns-then-x
unfolding to_bits
returns-then-x c = ap (to_bits binary64) (sym (differs_from_itself _ (subst T (sym c.if-x.true) tt)))
