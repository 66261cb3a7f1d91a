-- `float::from_digits` meets its contract: the power is small, so nothing is shifted out. Assumes nothing.
use Rattle.std.proofs.Common.{◌≡◌, ◌*◌, ◌%◌, ◌^◌, arith}
use Rattle.float.proofs.Pattern.{pattern, no_nan}
use Rattle.float.proofs.from_digits.Goals as goal
use Rattle.float.proofs.from_digits.Goals.{Start}

kept : (c : Start) → c.args.power * 2 ^ 52 % 2 ^ 64 ≡ c.args.power * 2 ^ 52
kept c = omega arith

pub float_from_bits-result : goal.float_from_bits-result
float_from_bits-result c = no_nan _ (omega arith)

pub returns : goal.returns
returns c = rw (kept c) (pattern c.args.power c.args.p c.requires.2 c.requires.0 c.requires.1)
