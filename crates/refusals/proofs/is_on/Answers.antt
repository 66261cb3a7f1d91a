-- `refusals::is_on` meets its contract. Assumes nothing.
use mathlib.Core.Path.{refl}
use Rattle.refusals.proofs.is_on.Goals as goal

pub returns : goal.returns
returns c = refl
