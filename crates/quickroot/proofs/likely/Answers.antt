-- `quickroot::likely` can be run: the pattern is no NaN's. Assumes nothing.
use Rattle.std.proofs.Common.{arith}
use Rattle.float.proofs.Pattern.{no_nan}
use Rattle.quickroot.proofs.likely.Goals as goal

pub float_from_bits-y0 : goal.float_from_bits-y0
float_from_bits-y0 c = no_nan _ (omega (arith, c.pattern-b.ensures.bounded))
