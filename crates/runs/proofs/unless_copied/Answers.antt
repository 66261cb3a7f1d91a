-- `runs::unless_copied` meets its contract. Assumes nothing.
use borrow.Author.Rules.{rules}
use Rattle.runs.proofs.unless_copied.Goals as goal

pub is_copied-requires : goal.is_copied-requires
is_copied-requires c = search rules

pub returns-then-is_copied : goal.returns-then-is_copied
returns-then-is_copied c = rw (← c.is_copied.ensures, c.if-is_copied.true)

pub returns : goal.returns
returns c = rw (← c.is_copied.ensures, c.if-is_copied.false)
