-- `gliftext::table::rune_class` meets its contract. Assumes nothing.
use Rattle.gliftext.specs.Utf8.{rune_class, runes}
use Rattle.gliftext.proofs.table.rune_class.Goals as goal

pub returns : goal.returns
unfolding rune_class runes
returns c = c.wide8.ensures
