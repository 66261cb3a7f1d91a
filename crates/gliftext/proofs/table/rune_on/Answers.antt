-- `gliftext::table::rune_on` meets its contract. Assumes nothing.
use mathlib.Core.Path.{◌∙◌}
use Rattle.gliftext.specs.Utf8.{rune_table}
use Rattle.gliftext.proofs.Tables.{runes_in, runes_past, runes_out}
use borrow.Author.Rules.{rules}
use Rattle.gliftext.proofs.table.rune_on.Goals as goal

pub returns-then-class-lt15 : goal.returns-then-class-lt15
unfolding rune_table
returns-then-class-lt15 c = c.wide8.ensures ∙ runes_in _ _ (search rules) (search rules)

pub returns-else-class-lt15 : goal.returns-else-class-lt15
returns-else-class-lt15 c = runes_past _ _ (search rules) (search rules)

pub returns-else-state-lt11 : goal.returns-else-state-lt11
returns-else-state-lt11 c = runes_out _ _ (search rules)
