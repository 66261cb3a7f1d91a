-- `cubics::put` meets its contract. Assumes nothing.
use mathlib.Core.Path.{refl}
use Rattle.cubics.proofs.Making.{makes_one}
use Rattle.cubics.proofs.put.Goals as goal

pub returns : goal.returns
returns c = λ q is out. makes_one q c.push-v.ensures refl is out
