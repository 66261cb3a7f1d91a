-- `explicit::explicit_contour` meets its contract. Assumes nothing.
use Rattle.refusals.proofs.Passing.{handed_up}
use Rattle.explicit.proofs.Writing.{refused_first, after_judging_lem}
use Rattle.explicit.proofs.explicit_contour.Goals as goal

pub returns-in_err-judge : goal.returns-in_err-judge
returns-in_err-judge c = rw (handed_up c.from_residual.result _ c.from_residual.ensures.1)
    (refused_first _ _ c.judge.ensures c.in_err-judge.was)

pub returns : goal.returns
returns c =
    after_judging_lem _ c.judge.ensures c.in_ok-judge.was c.explicit_fine.ensures
