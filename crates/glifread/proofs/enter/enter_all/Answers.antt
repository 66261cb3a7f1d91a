use native.Mathlib.Omega.{arith}
use Rattle.glifread.proofs.Entering.{contours_start, contours_more, contours_all}
use Rattle.glifread.proofs.enter.enter_all.Goals as goal

pub loop-k-init : goal.loop-k-init
loop-k-init c = contours_start _ _ _

pub loop-k-preserved : goal.loop-k-preserved
loop-k-preserved c = contours_more _ _ _ _ c.loop-k.invariant c.enter_next-w.ensures

pub returns : goal.returns
returns c = contours_all _ _ _ _ _ (omega arith) (omega arith) c.loop-k.invariant
