-- `lookup::fallen` meets its contract. Assumes nothing.
use Rattle.lookup.proofs.Laws.{both_fall, none_falls}
use Rattle.lookup.proofs.fallen.Goals as goal

pub returns-then-row-to_index : goal.returns-then-row-to_index
returns-then-row-to_index c = both_fall _ _ _ c.to_index.ensures c.if-row-to_index.true

pub returns-else-row-to_index : goal.returns-else-row-to_index
returns-else-row-to_index c = none_falls _ _ _ c.to_index.ensures c.if-row-to_index.false
