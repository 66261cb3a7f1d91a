-- `breaks::places` meets its contract. Assumes nothing.
use Rattle.breaks.proofs.Laws.{cut_31}
use Rattle.breaks.proofs.places.Goals as goal

pub returns : goal.returns
returns c = rw (c.min.ensures, c.to_index.ensures, c.round.ensures) (cut_31 _)
