use native.Mathlib.Omega.{arith}
use Rattle.glifread.proofs.Entering.{places_start, places_more, places_all}
use Rattle.glifread.proofs.enter.enter_places.Goals as goal

pub loop-k-init : goal.loop-k-init
loop-k-init c = places_start _ _ _

pub loop-k-preserved : goal.loop-k-preserved
loop-k-preserved c = places_more _ _ _ _ c.loop-k.invariant c.plus.ensures c.at-p.ensures c.enter_one-pen.ensures

pub returns : goal.returns
returns c = places_all _ _ _ c.less-k-end.ensures (omega arith) (omega arith) c.loop-k.invariant
