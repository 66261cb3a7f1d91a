use mathlib.Core.Path.{◌∙◌}
use native.Mathlib.Omega.{arith}
use lib.ListN.{length-set}
use Rattle.samples.proofs.Turns.{not_due, none_left, goes}
use Rattle.samples.proofs.fill.Goals as goal

pub returns-then-row-m : goal.returns-then-row-m
returns-then-row-m c =
    record { row = c.loop-x.invariant.2 ∙ none_left _ _ _ _ _ _ c.loop-x.invariant.0 c.loop-x.invariant.1 c.loop-x-test.true c.if-row-m.true; places = omega arith }

pub loop-x-preserved : goal.loop-x-preserved
loop-x-preserved c = (
  simp length-set c.loop-x.invariant.0,
  omega arith,
  rw c.sample.ensures (c.loop-x.invariant.2 ∙ goes _ _ _ _ _ _ c.loop-x.invariant.0 c.loop-x.invariant.1 c.loop-x-test.true c.if-row-m.false),
)

pub returns : goal.returns
returns c =
    record { row = c.loop-x.invariant.2 ∙ not_due _ _ _ _ _ _ c.loop-x-test.false; places = omega arith }
