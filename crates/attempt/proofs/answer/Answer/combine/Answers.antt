-- `attempt::answer::Answer::combine` meets its contract. Assumes nothing.
use mathlib.Core.Bool.{true, false}
use borrow.Author.Tests.{eq-eqb, ne_eqb}
use Rattle.attempt.specs.Value.{combine_of}
use Rattle.attempt.proofs.Against.{compared}
use Rattle.attempt.proofs.answer.Answer.combine.Goals as goal

pub returns-then-previous-eq0 : goal.returns-then-previous-eq0
unfolding combine_of
returns-then-previous-eq0 c = rw (eq-eqb _ _ c.if-previous-eq0.true)

pub returns-then-self-eq0 : goal.returns-then-self-eq0
unfolding combine_of
returns-then-self-eq0 c =
    rw (ne_eqb _ _ c.if-previous-eq0.false, ← c.total-total.ensures, eq-eqb _ _ c.if-self-eq0.true)

-- an old answer stands, and the scores are compared
pub returns-then-total-self : goal.returns-then-total-self
returns-then-total-self c =
    compared _ _ _ _ _ _ c.total-total.ensures true c.if-previous-eq0.false c.if-self-eq0.false c.if-total-self.true

pub returns-else-total-self : goal.returns-else-total-self
returns-else-total-self c =
    compared _ _ _ _ _ _ c.total-total.ensures false c.if-previous-eq0.false c.if-self-eq0.false c.if-total-self.false
