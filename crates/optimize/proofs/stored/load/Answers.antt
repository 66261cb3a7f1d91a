-- `optimize::stored::load` meets its contract. Assumes nothing.
use borrow.Author.Rules.{rules}
use Rattle.optimize.proofs.stored.load.Goals as goal

pub offset_bounds-answers-k : goal.offset_bounds-answers-k
offset_bounds-answers-k c = search rules

pub bounds-answers-k : goal.bounds-answers-k
bounds-answers-k c = search rules

pub offset_bounds-links-k : goal.offset_bounds-links-k
offset_bounds-links-k c = search rules

pub bounds-links-k : goal.bounds-links-k
bounds-links-k c = search rules

pub quad_of-quad-requires : goal.quad_of-quad-requires
quad_of-quad-requires c = search rules

pub overflow_add-result : goal.overflow_add-result
overflow_add-result c = search rules

pub overflow_cast-result : goal.overflow_cast-result
overflow_cast-result c = search rules

pub bounds-a-0 : goal.bounds-a-0
bounds-a-0 c = search rules

pub returns : goal.returns
returns c = rw c.quad_of-quad.ensures
