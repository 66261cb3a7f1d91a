-- `quickroot::outside` meets its contract: neither difference has wrapped. Assumes nothing.
use Rattle.std.proofs.Common.{arith}
use Rattle.quickroot.proofs.outside.Goals as goal

pub returns : goal.returns
returns c = λ z. record { least = omega arith; most = omega arith }
