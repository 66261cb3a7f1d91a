-- `optimize::stored::slot_of` meets its contract. Assumes nothing.
use borrow.Author.Rules.{rules}
use borrow.Author.Tests.{eq-eqb, ne_eqb}
use Rattle.optimize.specs.Stored.{slot_at}
use Rattle.optimize.proofs.stored.slot_of.Goals as goal

pub overflow_mul-b : goal.overflow_mul-b
overflow_mul-b c = search rules

pub overflow_add-b : goal.overflow_add-b
overflow_add-b c = search rules

pub offset_bounds-links-b : goal.offset_bounds-links-b
offset_bounds-links-b c = search rules

pub bounds-links-b : goal.bounds-links-b
bounds-links-b c = search rules

pub overflow_mul-result : goal.overflow_mul-result
overflow_mul-result c = search rules

pub overflow_mul-result-else-links-b-eq0 : goal.overflow_mul-result-else-links-b-eq0
overflow_mul-result-else-links-b-eq0 c = search rules

pub overflow_add-result : goal.overflow_add-result
overflow_add-result c = search rules

pub returns-then-links-b-eq0 : goal.returns-then-links-b-eq0
unfolding slot_at
returns-then-links-b-eq0 c = rw (eq-eqb _ _ c.if-links-b-eq0.true)

pub returns-else-links-b-eq0 : goal.returns-else-links-b-eq0
unfolding slot_at
returns-else-links-b-eq0 c = rw (ne_eqb _ _ c.if-links-b-eq0.false)
