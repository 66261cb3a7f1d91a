-- `attempt::answer::Answer::never_below` meets its contract: a joint is 1 or 2. Assumes nothing.
use mathlib.Core.Path.{refl}
use Rattle.attempt.proofs.Against.{at_each_joint}
use Rattle.attempt.proofs.answer.Answer.never_below.Goals as goal

pub returns-then-out_of_reach : goal.returns-then-out_of_reach
returns-then-out_of_reach c = λ far.
    at_each_joint _ _ _ c.if-self-eq0.false
    (λ measure p. c.out_of_reach.ensures c.if-out_of_reach.true _ measure refl p)
    (λ measure p. c.out_of_reach-then-out_of_reach.ensures far _ measure refl p)
