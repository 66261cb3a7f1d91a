use native.Mathlib.Omega.{arith}
use mathlib.Core.Path.{◌∙◌}
use Rattle.refusals.proofs.Passing.{handed_up}
use Rattle.assembly.proofs.Going.{running_start, running_few, no_more, all_seen, run_refused, run_ended, run_on}
use Rattle.assembly.proofs.crunch_runs.Goals as goal

pub loop-k-init : goal.loop-k-init
loop-k-init c = running_start _ _ _ _ _ _ _ _ _ _ _ c.requires.1

pub shape_of-samples-in_default : goal.shape_of-samples-in_default
shape_of-samples-in_default c = c.loop-k.invariant.samples

pub shape_of-breaks-in_default : goal.shape_of-breaks-in_default
shape_of-breaks-in_default c = c.loop-k.invariant.breaks

pub shape_of-answers-in_default : goal.shape_of-answers-in_default
shape_of-answers-in_default c = c.loop-k.invariant.answers

pub shape_of-links-in_default : goal.shape_of-links-in_default
shape_of-links-in_default c = c.loop-k.invariant.links

pub shape_of-points-in_default : goal.shape_of-points-in_default
shape_of-points-in_default c = c.loop-k.invariant.long

pub returns-in_default : goal.returns-in_default
returns-in_default c = no_more _ _ _ _ _ _ _ _ _ _ _ c.loop-k.invariant c.run_at.ensures c.in_default.is

pub crunch_run-requires : goal.crunch_run-requires
crunch_run-requires c = running_few _ _ _ _ _ _ _ _ _ _ _ c.loop-k.invariant c.loop-k-test.true c.requires.0

pub shape_of-samples-in-Ended : goal.shape_of-samples-in-Ended
shape_of-samples-in-Ended c = c.crunch_run.auto.samples ∙ c.loop-k.invariant.samples

pub shape_of-breaks-in-Ended : goal.shape_of-breaks-in-Ended
shape_of-breaks-in-Ended c = c.crunch_run.auto.breaks ∙ c.loop-k.invariant.breaks

pub shape_of-answers-in-Ended : goal.shape_of-answers-in-Ended
shape_of-answers-in-Ended c = c.crunch_run.auto.answers ∙ c.loop-k.invariant.answers

pub shape_of-links-in-Ended : goal.shape_of-links-in-Ended
shape_of-links-in-Ended c = c.crunch_run.auto.links ∙ c.loop-k.invariant.links

pub shape_of-points-in-Ended : goal.shape_of-points-in-Ended
shape_of-points-in-Ended c = c.crunch_run.auto.points ∙ c.loop-k.invariant.long

pub returns-in-Ended : goal.returns-in-Ended
returns-in-Ended c = run_ended _ _ _ _ _ _ _ _ _ _ _ c.loop-k.invariant c.run_at.ensures c.in-Some.is c.crunch_run.ensures.stands (rw c.in-Ended.is at c.in_ok-q.was)

pub returns-in_err-q : goal.returns-in_err-q
returns-in_err-q c =
    rw (handed_up c.from_residual.result _ c.from_residual.ensures.1)
    (run_refused _ _ _ _ _ _ _ _ _ _ _ c.loop-k.invariant c.run_at.ensures c.in-Some.is c.crunch_run.ensures.stands c.in_err-q.was)

pub loop-k-preserved : goal.loop-k-preserved
loop-k-preserved c =
    run_on _ _ _ _ _ _ _ _ _ _ _ c.loop-k.invariant c.run_at.ensures c.in-Some.is c.crunch_run.ensures.stands (rw c.in-Going.is at c.in_ok-q.was) c.crunch_run.ensures.few c.loop-k-test.true c.crunch_run.auto.samples c.crunch_run.auto.breaks c.crunch_run.auto.answers c.crunch_run.auto.links c.crunch_run.auto.points

pub shape_of-samples : goal.shape_of-samples
shape_of-samples c = c.loop-k.invariant.samples

pub shape_of-breaks : goal.shape_of-breaks
shape_of-breaks c = c.loop-k.invariant.breaks

pub shape_of-answers : goal.shape_of-answers
shape_of-answers c = c.loop-k.invariant.answers

pub shape_of-links : goal.shape_of-links
shape_of-links c = c.loop-k.invariant.links

pub shape_of-points : goal.shape_of-points
shape_of-points c = c.loop-k.invariant.long

pub returns : goal.returns
returns c = all_seen _ _ _ _ _ _ _ _ _ _ _ c.loop-k.invariant c.loop-k-test.false
