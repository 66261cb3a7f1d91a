-- `attempt::answer::Answer::stays` meets its contract. Assumes nothing.
use mathlib.Core.Path.{sym}
use Rattle.attempt.proofs.Against.{kept}
use Rattle.attempt.proofs.answer.Answer.stays.Goals as goal

pub returns : goal.returns
returns c = λ far measure p.
    sym (kept _ _ measure _ _ c.if-self-eq0.false (c.out_of_reach.ensures far _ measure c.total.ensures p))
