-- `optimize::stored::quad_of` meets its contract. Assumes nothing.
use borrow.Author.Rules.{rules}
use Rattle.optimize.proofs.stored.quad_of.Goals as goal

pub offset_bounds-answers-k : goal.offset_bounds-answers-k
offset_bounds-answers-k c = search rules

pub bounds-answers-k : goal.bounds-answers-k
bounds-answers-k c = search rules

pub from_break-requires : goal.from_break-requires
from_break-requires c = search rules

pub read-from-requires : goal.read-from-requires
read-from-requires c = search rules

pub read-to-requires : goal.read-to-requires
read-to-requires c = search rules

pub bounds-a-1 : goal.bounds-a-1
bounds-a-1 c = search rules

pub bounds-a-2 : goal.bounds-a-2
bounds-a-2 c = search rules

pub returns : goal.returns
returns c =
    rw (c.read-from.ensures, c.read-to.ensures, c.from_break.ensures)
