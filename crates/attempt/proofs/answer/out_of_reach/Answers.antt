-- `attempt::answer::out_of_reach` meets its contract. Assumes nothing.
use borrow.Author.Tests.{not-true}
use Rattle.attempt.proofs.Against.{not_less}
use Rattle.attempt.proofs.answer.out_of_reach.Goals as goal

pub returns-then-least : goal.returns-then-least
returns-then-least c = λ far x measure e p. not_less x _ _ e c.if-least.true (not-true _ far) measure p
