use native.Mathlib.Omega.{arith}
use Rattle.editions.proofs.Going.{running_start, running_few, no_more, all_seen, run_on}
use Rattle.editions.proofs.work.crunch_runs.Goals as goal

pub loop-k-init : goal.loop-k-init
loop-k-init c = (running_start _ _ _ _ _ _ _ _ _ _ _ c.requires.1, running_start _ _ _ _ _ _ _ _ _ _ _ c.requires.2)

pub shape_of-samples-in_default : goal.shape_of-samples-in_default
shape_of-samples-in_default c = c.loop-k.invariant.0.samples

pub shape_of-breaks-in_default : goal.shape_of-breaks-in_default
shape_of-breaks-in_default c = c.loop-k.invariant.0.breaks

pub shape_of-answers_a-in_default : goal.shape_of-answers_a-in_default
shape_of-answers_a-in_default c = c.loop-k.invariant.0.answers

pub shape_of-links_a-in_default : goal.shape_of-links_a-in_default
shape_of-links_a-in_default c = c.loop-k.invariant.0.links

pub shape_of-points_a-in_default : goal.shape_of-points_a-in_default
shape_of-points_a-in_default c = c.loop-k.invariant.0.long

pub shape_of-answers_b-in_default : goal.shape_of-answers_b-in_default
shape_of-answers_b-in_default c = c.loop-k.invariant.1.answers

pub shape_of-links_b-in_default : goal.shape_of-links_b-in_default
shape_of-links_b-in_default c = c.loop-k.invariant.1.links

pub shape_of-points_b-in_default : goal.shape_of-points_b-in_default
shape_of-points_b-in_default c = c.loop-k.invariant.1.long

pub returns-in_default : goal.returns-in_default
returns-in_default c = record { a = no_more _ _ _ _ _ _ _ _ _ _ _ c.loop-k.invariant.0 c.run_at.ensures c.in_default.is; b = no_more _ _ _ _ _ _ _ _ _ _ _ c.loop-k.invariant.1 c.run_at.ensures c.in_default.is }

pub run_both-c-requires : goal.run_both-c-requires
run_both-c-requires c = (running_few _ _ _ _ _ _ _ _ _ _ _ c.loop-k.invariant.0 c.loop-k-test.true c.requires.0, running_few _ _ _ _ _ _ _ _ _ _ _ c.loop-k.invariant.1 c.loop-k-test.true c.requires.0)

pub loop-k-preserved : goal.loop-k-preserved
loop-k-preserved c = (
  run_on _ _ _ _ _ _ _ _ _ _ _ c.loop-k.invariant.0 c.run_at.ensures c.in-Some.is c.run_both-c.ensures.a c.loop-k-test.true c.run_both-c.auto.samples c.run_both-c.auto.breaks c.run_both-c.auto.answers_a c.run_both-c.auto.links_a c.run_both-c.auto.points_a,
  run_on _ _ _ _ _ _ _ _ _ _ _ c.loop-k.invariant.1 c.run_at.ensures c.in-Some.is c.run_both-c.ensures.b c.loop-k-test.true c.run_both-c.auto.samples c.run_both-c.auto.breaks c.run_both-c.auto.answers_b c.run_both-c.auto.links_b c.run_both-c.auto.points_b,
)

pub shape_of-samples : goal.shape_of-samples
shape_of-samples c = c.loop-k.invariant.0.samples

pub shape_of-breaks : goal.shape_of-breaks
shape_of-breaks c = c.loop-k.invariant.0.breaks

pub shape_of-answers_a : goal.shape_of-answers_a
shape_of-answers_a c = c.loop-k.invariant.0.answers

pub shape_of-links_a : goal.shape_of-links_a
shape_of-links_a c = c.loop-k.invariant.0.links

pub shape_of-points_a : goal.shape_of-points_a
shape_of-points_a c = c.loop-k.invariant.0.long

pub shape_of-answers_b : goal.shape_of-answers_b
shape_of-answers_b c = c.loop-k.invariant.1.answers

pub shape_of-links_b : goal.shape_of-links_b
shape_of-links_b c = c.loop-k.invariant.1.links

pub shape_of-points_b : goal.shape_of-points_b
shape_of-points_b c = c.loop-k.invariant.1.long

pub returns : goal.returns
returns c = record { a = all_seen _ _ _ _ _ _ _ _ _ _ _ c.loop-k.invariant.0 c.loop-k-test.false; b = all_seen _ _ _ _ _ _ _ _ _ _ _ c.loop-k.invariant.1 c.loop-k-test.false }
