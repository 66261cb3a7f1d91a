-- `float::fract` meets its contract. Assumes nothing.
use Rattle.std.proofs.Common.{ap}
use lib.Ieee.{binary64, sub}
use Rattle.float.proofs.fract.Goals as goal

pub returns : goal.returns
returns c = ap (sub binary64 _) c.trunc.ensures
