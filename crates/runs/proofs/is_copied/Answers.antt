-- `runs::is_copied` meets its contract. Assumes nothing.
use borrow.Author.Rules.{rules}
use Rattle.runs.proofs.is_copied.Goals as goal

pub start_of-requires : goal.start_of-requires
start_of-requires c = tt

pub is_copied_from-requires : goal.is_copied_from-requires
is_copied_from-requires c = tt

pub returns-in-Some : goal.returns-in-Some
returns-in-Some c =
    rw (c.in-Some.is, ← c.start_of.ensures) c.is_copied_from.ensures
