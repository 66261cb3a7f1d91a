use Rattle.contour.proofs.Closing.{shift_start, shift_more, shift_all}
use Rattle.contour.proofs.put_first.Goals as goal

pub loop-i-init : goal.loop-i-init
loop-i-init c = shift_start _ _ _ c.requires

pub loop-i-preserved : goal.loop-i-preserved
loop-i-preserved c = shift_more c.loop-i.invariant c.loop-i-test.true

pub returns : goal.returns
returns c = shift_all c.loop-i.invariant c.loop-i-test.false
