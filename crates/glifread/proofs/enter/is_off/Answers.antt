-- `glifread::enter::is_off` meets its contract. Assumes nothing.
use mathlib.Core.Path.{refl}
use Rattle.glifread.specs.Enter.{is_off}
use Rattle.glifread.proofs.enter.is_off.Goals as goal

pub returns : goal.returns
unfolding is_off
returns c = refl
