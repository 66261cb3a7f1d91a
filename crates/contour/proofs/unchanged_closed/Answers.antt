use Rattle.std.proofs.Common.{refl}
use Rattle.contour.proofs.Closing.{coming_start, coming_more, all_came}
use Rattle.contour.proofs.unchanged_closed.Goals as goal

pub loop-i-init : goal.loop-i-init
loop-i-init c = coming_start _ _ _ _ c.nothing-w.ensures

pub loop-i-preserved : goal.loop-i-preserved
loop-i-preserved c = coming_more c.loop-i.invariant c.loop-i-test.true c.is_on.ensures c.point_as.ensures c.push-w.auto.points c.push-w.ensures

pub returns : goal.returns
returns c = all_came c.loop-i.invariant c.loop-i-test.false refl
