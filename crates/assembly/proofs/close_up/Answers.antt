-- `assembly::close_up` meets its contract. Assumes nothing.
use Rattle.refusals.proofs.Passing.{handed_up}
use Rattle.assembly.proofs.Going.{refused_closes, ended_closes, going_closes}
use Rattle.assembly.proofs.close_up.Goals as goal

pub returns-in_err-p : goal.returns-in_err-p
returns-in_err-p c = rw (handed_up c.from_residual.result _ c.from_residual.ensures.1) (refused_closes _ c.in_err-p.was)

pub returns-in-Ended : goal.returns-in-Ended
returns-in-Ended c = ended_closes _ (rw c.in-Ended.is at c.in_ok-p.was)

pub returns-in-Going : goal.returns-in-Going
returns-in-Going c = going_closes _ (rw c.in-Going.is at c.in_ok-p.was) c.close-w.ensures
