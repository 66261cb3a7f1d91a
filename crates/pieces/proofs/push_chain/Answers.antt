-- `pieces::push_chain` meets its contract. Assumes nothing.
use Rattle.std.proofs.Common.{le_refl}
use Rattle.pieces.proofs.Whole.{walkable}
use Rattle.pieces.proofs.push_chain.Goals as goal

pub push_slots-requires-2 : goal.push_slots-requires-2
push_slots-requires-2 c = (c.requires, (walkable c.requires).1, le_refl _)
