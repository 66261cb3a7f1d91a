-- `why::why` meets its contract. Assumes nothing.
use Rattle.refusals.proofs.Passing.{handed_up}
use Rattle.why.proofs.Told.{refused_first, not_below, told}
use Rattle.why.proofs.why.Goals as goal

pub returns : goal.returns
returns c =
    told c.judge.ensures c.in_ok-judge.was c.count-m.ensures c.if-m-k.false c.reasons.ensures

pub returns-in_err-judge : goal.returns-in_err-judge
returns-in_err-judge c = rw (handed_up c.from_residual.result _ c.from_residual.ensures.1)
    (refused_first c.judge.ensures c.in_err-judge.was)

pub returns-then-m-k : goal.returns-then-m-k
returns-then-m-k c =
    not_below c.judge.ensures c.in_ok-judge.was c.count-m.ensures c.if-m-k.true
