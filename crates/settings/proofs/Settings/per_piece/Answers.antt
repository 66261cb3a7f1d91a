-- `settings::Settings::per_piece` meets its contract. Assumes nothing.
use mathlib.Core.Path.{refl}
use Rattle.settings.specs.Settings.{penalty_of}
use borrow.Author.Rules.{rules}
use Rattle.settings.proofs.Settings.per_piece.Goals as goal

pub int_to_float-result : goal.int_to_float-result
int_to_float-result c = search rules

pub returns : goal.returns
unfolding penalty_of
returns c = refl
