-- `cubics::put_start` meets its contract. Assumes nothing.
use mathlib.Core.Path.{refl}
use Rattle.cubics.proofs.put_start.Goals as goal

pub returns : goal.returns
returns c = λ n e b room v. c.put_rounded.ensures n.x.p0 n.y.p0 e b room v.x.p0 v.y.p0 refl
