use Rattle.std.proofs.Common.{◌≡◌, arith}
use Rattle.quickarclen.proofs.Filling.{no_lengths, one_length}
use Rattle.quickarclen.proofs.lengths.Goals as goal

pub loop-i-init : goal.loop-i-init
loop-i-init c = no_lengths _ _ _

pub loop-i-preserved : goal.loop-i-preserved
loop-i-preserved c = one_length _ c.loop-i.invariant c.loop-i-test.true c.grown.ensures

pub returns : goal.returns
returns c =
    let end : c.loop-i.i ≡ 10 = omega arith in
    rw end at c.loop-i.invariant
