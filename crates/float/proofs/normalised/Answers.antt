-- `float::normalised` meets its contract. Assumes nothing.
use Rattle.std.proofs.Common.{◌<◌, arith}
use lib.Count.{count_leading_zeros}
use Rattle.float.proofs.Scaled.{zeros_lt, leaves}
use Rattle.float.proofs.normalised.Goals as goal
use Rattle.float.proofs.normalised.Goals.{Start}

zeros : (c : Start) → count_leading_zeros 64 c.args.m < 64
zeros c = zeros_lt c.args.m c.args.i c.requires.0 c.requires.1

pub overflow_cast-zeros : goal.overflow_cast-zeros
overflow_cast-zeros c = omega (arith, zeros c)

pub overflow_sub-size : goal.overflow_sub-size
overflow_sub-size c = omega (arith, zeros c)

pub overflow_shl-word : goal.overflow_shl-word
overflow_shl-word c = zeros c

pub returns : goal.returns
returns c = leaves c.args.m c.args.i c.requires.0 c.requires.1 c.requires.2
