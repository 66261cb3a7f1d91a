-- `editions::work::copy_line` meets its contract. Assumes nothing.
use Rattle.refusals.proofs.Passing.{handed_up}
use Rattle.editions.proofs.Steps.{refused_stays, ended_stays, line_moves}
use Rattle.editions.proofs.work.copy_line.Goals as goal

pub returns-in_err-p : goal.returns-in_err-p
returns-in_err-p c = rw (handed_up c.from_residual.result _ c.from_residual.ensures.1) (refused_stays _ c.in_err-p.was)

pub returns-in-Ended : goal.returns-in-Ended
returns-in-Ended c = ended_stays _ (rw c.in-Ended.is at c.in_ok-p.was)

pub returns-in-Going : goal.returns-in-Going
returns-in-Going c = line_moves c.args.g (rw c.in-Going.is at c.in_ok-p.was) c.push_seg-w.ensures
