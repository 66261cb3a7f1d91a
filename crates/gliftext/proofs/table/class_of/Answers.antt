-- `gliftext::table::class_of` meets its contract. Assumes nothing.
use Rattle.gliftext.specs.Table.{class_of, classes}
use Rattle.gliftext.proofs.table.class_of.Goals as goal

pub returns : goal.returns
unfolding class_of classes
returns c = c.wide8.ensures
