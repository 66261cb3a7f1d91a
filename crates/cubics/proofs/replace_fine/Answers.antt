-- `cubics::replace_fine` meets its contract. Assumes nothing.
use Rattle.cubics.proofs.replace_fine.Goals as goal

pub returns : goal.returns
returns c = c.write_made.ensures _ c.replace-m.ensures
