use native.Mathlib.Omega.{arith}
use Rattle.glyfwrite.proofs.Putting.{begin, more, all, next_byte, no_byte}
use Rattle.glyfwrite.proofs.put.put_bytes.Goals as goal

pub loop-b-init : goal.loop-b-init
loop-b-init c = (begin _ _ _, omega arith, omega arith)

pub loop-b-preserved : goal.loop-b-preserved
loop-b-preserved c = (more c.loop-b.invariant.0 (next_byte _ _ c.loop-b-test.true) c.put_byte-at.ensures, omega arith, omega (arith, c.put_byte-at.ensures.next))

pub returns : goal.returns
returns c = all c.loop-b.invariant.0 (no_byte _ _ c.loop-b-test.false)
