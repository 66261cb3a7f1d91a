-- `editions::work::take_step` meets its contract. Assumes nothing.
use Rattle.refusals.proofs.Passing.{handed_up}
use Rattle.editions.proofs.Steps.{refused_stays, ended_stays, going_moves, few_so_far}
use Rattle.editions.proofs.work.take_step.Goals as goal

pub after_survey-requires : goal.after_survey-requires
after_survey-requires c = (c.requires.0, few_so_far (rw c.in-Going.is at c.in_ok-p.was) c.requires.1)

pub returns-in_err-p : goal.returns-in_err-p
returns-in_err-p c = rw (handed_up c.from_residual.result _ c.from_residual.ensures.1) (refused_stays _ c.in_err-p.was)

pub returns-in-Ended : goal.returns-in-Ended
returns-in-Ended c = ended_stays _ (rw c.in-Ended.is at c.in_ok-p.was)

pub returns-in-Going : goal.returns-in-Going
returns-in-Going c = going_moves _ (rw c.in-Going.is at c.in_ok-p.was) c.after_survey.ensures.stands c.after_survey.ensures.few
