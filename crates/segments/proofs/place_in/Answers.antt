use native.Mathlib.Omega.{arith}
use Rattle.segments.proofs.Going.{pass_start, pass_here, pass_more, pass_end}
use Rattle.segments.proofs.Numbers.{nan_first, number_first}
use Rattle.segments.proofs.place_in.Goals as goal

pub returns-then-s : goal.returns-then-s
returns-then-s c = record { place = nan_first _ _ c.if-s.true; few = omega arith }

pub loop-k-init : goal.loop-k-init
loop-k-init c = pass_start _ _

pub returns-then-s-end : goal.returns-then-s-end
returns-then-s-end c = record { place = number_first _ _ c.if-s.false (pass_here c.loop-k.invariant c.loop-k-test.true c.if-s-end.true); few = omega (arith, c.loop-k-test.true) }

pub loop-k-preserved : goal.loop-k-preserved
loop-k-preserved c = pass_more c.loop-k.invariant c.loop-k-test.true c.if-s-end.false

pub returns : goal.returns
returns c = record { place = number_first _ _ c.if-s.false (pass_end c.loop-k.invariant c.loop-k-test.false); few = omega arith }
