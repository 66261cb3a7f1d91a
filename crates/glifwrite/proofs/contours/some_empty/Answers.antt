use native.Mathlib.Omega.{arith}
use Rattle.glifwrite.proofs.Putting.{empty_none, empty_more, empty_all}
use Rattle.glifwrite.proofs.contours.some_empty.Goals as goal

pub loop-k-init : goal.loop-k-init
loop-k-init c = empty_none _

pub loop-k-preserved : goal.loop-k-preserved
loop-k-preserved c = empty_more _ _ c.loop-k.invariant c.end_at.ensures c.start_of.ensures c.either-found.ensures

pub returns : goal.returns
returns c = empty_all _ (omega arith) (omega arith) c.loop-k.invariant
