use native.Mathlib.Omega.{arith}
use Rattle.glifwrite.proofs.Putting.{contour_start, contour_more, contour_all}
use Rattle.glifwrite.proofs.contours.put_contour.Goals as goal

pub loop-k-init : goal.loop-k-init
loop-k-init c = contour_start _ _ _ _ _ _

pub loop-k-preserved : goal.loop-k-preserved
loop-k-preserved c = contour_more _ _ _ _ _ _ _ c.loop-k.invariant c.plus.ensures c.put_place-a.ensures

pub returns : goal.returns
returns c = contour_all _ _ _ _ _ _ c.less-k-end.ensures (omega arith) (omega arith) c.loop-k.invariant
