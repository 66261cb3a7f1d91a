-- `float::is_close` meets its contract. Assumes nothing.
use Rattle.std.proofs.Common.{ap}
use lib.Ieee.{Float, lt, of_bits, round}
use Rattle.float.specs.Float.{tiny, close_to}
use Rattle.float.proofs.is_close.Goals as goal

pub returns : goal.returns
unfolding of_bits round tiny close_to
returns c = ap (λ (d : Float). lt d tiny) c.abs.ensures
