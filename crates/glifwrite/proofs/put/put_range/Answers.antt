use native.Mathlib.Omega.{arith}
use Rattle.glifwrite.proofs.Putting.{range_start, range_more, range_all}
use Rattle.glifwrite.proofs.put.put_range.Goals as goal

pub loop-k-init : goal.loop-k-init
loop-k-init c = range_start _ _ _

pub loop-k-preserved : goal.loop-k-preserved
loop-k-preserved c = range_more _ _ _ _ c.loop-k.invariant c.plus.ensures c.at.ensures c.store.ensures c.more-a.ensures

pub returns : goal.returns
returns c = range_all _ _ _ c.less-k-end.ensures (omega arith) (omega arith) c.loop-k.invariant
