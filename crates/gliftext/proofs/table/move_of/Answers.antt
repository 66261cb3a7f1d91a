-- `gliftext::table::move_of` meets its contract. Assumes nothing.
use mathlib.Core.Path.{◌∙◌}
use Rattle.gliftext.specs.Table.{table}
use Rattle.gliftext.proofs.Tables.{moves_in, moves_past, moves_out}
use borrow.Author.Rules.{rules}
use Rattle.gliftext.proofs.table.move_of.Goals as goal

pub returns-then-class-lt23 : goal.returns-then-class-lt23
unfolding table
returns-then-class-lt23 c = c.wide16.ensures ∙ moves_in _ _ (search rules) (search rules)

pub returns-else-class-lt23 : goal.returns-else-class-lt23
returns-else-class-lt23 c = moves_past _ _ (search rules) (search rules)

pub returns-else-state-lt62 : goal.returns-else-state-lt62
returns-else-state-lt62 c = moves_out _ _ (search rules)
