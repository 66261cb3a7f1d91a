-- `arclen::ArclenFunctor::speed` meets its contract. Assumes nothing.
use Rattle.arclen.specs.Arclen.{speed_of}
use Rattle.arclen.proofs.ArclenFunctor.speed.Goals as goal

pub returns : goal.returns
unfolding speed_of
returns c = rw (c.norm.ensures, c.deriv.ensures)
