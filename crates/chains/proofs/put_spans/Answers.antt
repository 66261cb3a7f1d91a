use native.Mathlib.Omega.{arith}
use Rattle.rows.proofs.Filled.{start}
use Rattle.chains.proofs.Spans.{put_one, put_all}
use Rattle.chains.proofs.put_spans.Goals as goal

pub loop-i-init : goal.loop-i-init
loop-i-init c = start _ _

pub bounds-starts-i : goal.bounds-starts-i
bounds-starts-i c = omega (arith, c.loop-i.auto.i-end, c.loop-i-test.true, c.requires.0)

pub overflow_cast-starts : goal.overflow_cast-starts
overflow_cast-starts c = omega (arith, c.type_inv.starts c.loop-i.i)

pub bounds-ends-i : goal.bounds-ends-i
bounds-ends-i c = omega (arith, c.loop-i.auto.i-end, c.loop-i-test.true, c.requires.1)

pub overflow_cast-ends : goal.overflow_cast-ends
overflow_cast-ends c = omega (arith, c.type_inv.ends c.loop-i.i)

pub bounds-spans-i : goal.bounds-spans-i
bounds-spans-i c = omega (arith, c.loop-i-test.true, c.requires.2, c.loop-i.invariant.same)

pub loop-i-preserved : goal.loop-i-preserved
loop-i-preserved c = put_one _ _ _ _ c.requires.0 c.requires.1 c.loop-i.invariant c.loop-i-test.true c.requires.2 c.segment_at-a.ensures c.segment_at-b.ensures

pub shape_of-spans : goal.shape_of-spans
shape_of-spans c = c.loop-i.invariant.same

pub returns : goal.returns
returns c = put_all _ _ _ _ c.requires.0 c.requires.1 c.loop-i.invariant c.loop-i-test.false
