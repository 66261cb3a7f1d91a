-- `refusals::both_off` meets its contract. Assumes nothing.
use borrow.Author.Rules.{rules}
use Rattle.refusals.proofs.both_off.Goals as goal

pub is_on-requires : goal.is_on-requires
is_on-requires c = search rules

pub is_on-requires-then-not-is_on : goal.is_on-requires-then-not-is_on
is_on-requires-then-not-is_on c = search rules

pub returns-then-not-is_on : goal.returns-then-not-is_on
returns-then-not-is_on c = rw (← c.is_on.ensures, c.if-not-is_on.true-raw, ← c.is_on-then-not-is_on.ensures)

pub returns-else-not-is_on : goal.returns-else-not-is_on
returns-else-not-is_on c = rw (← c.is_on.ensures, c.if-not-is_on.false-raw)
