-- `glifread::enter::is_first` meets its contract. Assumes nothing.
use mathlib.Core.Path.{refl}
use Rattle.glifread.specs.Enter.{is_first}
use Rattle.glifread.proofs.enter.is_first.Goals as goal

pub returns : goal.returns
unfolding is_first
returns c = refl
