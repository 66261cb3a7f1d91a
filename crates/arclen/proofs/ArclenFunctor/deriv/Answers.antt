-- `arclen::ArclenFunctor::deriv` meets its contract. Assumes nothing.
use Rattle.std.proofs.Common.{refl}
use Rattle.arclen.specs.Arclen.{deriv_of}
use Rattle.arclen.proofs.ArclenFunctor.deriv.Goals as goal

pub returns : goal.returns
unfolding deriv_of
returns c = refl
