-- `optimize::stored::from_break` meets its contract. Assumes nothing.
use borrow.Author.Rules.{rules}
use Rattle.optimize.proofs.Leaves.{from_start, from_stored}
use Rattle.optimize.proofs.stored.from_break.Goals as goal

pub overflow_cast-result : goal.overflow_cast-result
overflow_cast-result c = search rules

pub returns-then-link-lt2 : goal.returns-then-link-lt2
returns-then-link-lt2 c = from_start _ c.if-link-lt2.true

pub returns-else-link-lt2 : goal.returns-else-link-lt2
returns-else-link-lt2 c = from_stored _ c.if-link-lt2.false
