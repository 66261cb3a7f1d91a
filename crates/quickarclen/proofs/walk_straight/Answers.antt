use Rattle.std.proofs.Common.{◌∙◌}
use Rattle.quickarclen.proofs.Straight.{one_speed}
use Rattle.quickarclen.proofs.Walking.{none, more, all}
use Rattle.quickarclen.proofs.walk_straight.Goals as goal

pub loop-i-init : goal.loop-i-init
loop-i-init c = none c.requires.1

pub loop-i-preserved : goal.loop-i-preserved
loop-i-preserved c =
    let v = one_speed c.requires.0 (c.root-v.ensures ∙ rw c.square.ensures) c.loop-i-test.true c.loop-i.invariant.time in
    more c.loop-i.invariant c.loop-i-test.true v.first v.half v.last c.write_step-y.ensures

pub returns : goal.returns
returns c = all c.loop-i.invariant c.loop-i-test.false
