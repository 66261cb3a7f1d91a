use Rattle.contour.proofs.Dropping.{move_start, move_more, move_all}
use Rattle.contour.proofs.remove.Goals as goal

pub loop-i-init : goal.loop-i-init
loop-i-init c = move_start _ _ _ c.requires.0 c.requires.1

pub loop-i-preserved : goal.loop-i-preserved
loop-i-preserved c = move_more c.loop-i.invariant c.loop-i-test.true

pub returns : goal.returns
returns c = move_all c.loop-i.invariant c.loop-i-test.false
