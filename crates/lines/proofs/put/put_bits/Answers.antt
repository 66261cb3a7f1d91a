use Rattle.lines.proofs.Digits.{a_nan, no_nan, its_bits}
use Rattle.lines.proofs.put.put_bits.Goals as goal

pub returns-then-x : goal.returns-then-x
returns-then-x c = rw (a_nan _ c.if-x.true) c.put_hex.ensures

pub float_to_bits-x : goal.float_to_bits-x
float_to_bits-x c = no_nan _ c.if-x.false

pub returns : goal.returns
returns c = rw (its_bits _ c.if-x.false) c.put_hex-2.ensures
