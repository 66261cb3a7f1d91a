-- `arclen::ArclenFunctor::new` meets its contract. Assumes nothing.
use Rattle.std.proofs.Common.{refl}
use Rattle.arclen.specs.Arclen.{arclen_functor_of}
use Rattle.arclen.proofs.ArclenFunctor.new.Goals as goal

pub returns : goal.returns
unfolding arclen_functor_of
returns c = refl
