use Rattle.quickarclen.proofs.Filling.{speed_first, speed_middle, speed_last, ready_next}
use Rattle.quickarclen.proofs.Walking.{none, more, all}
use Rattle.quickarclen.proofs.walk_bent.Goals as goal

pub loop-i-init : goal.loop-i-init
loop-i-init c = (none c.requires, c.speeds-v.ensures)

pub loop-i-preserved : goal.loop-i-preserved
loop-i-preserved c =
    let w = c.loop-i.invariant in
    let less = c.loop-i-test.true in
    (more w.0 less (speed_first w.1 less) (speed_middle w.1 less) (speed_last w.1 less) c.write_step-y.ensures, ready_next w.1)

pub returns : goal.returns
returns c = all c.loop-i.invariant.0 c.loop-i-test.false
