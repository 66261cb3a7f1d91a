use Rattle.std.proofs.Common.{◌≡◌, refl, add-one, arith}
use Rattle.quickarclen.specs.Stages.{time_from}
use Rattle.quickarclen.proofs.Filling.{time_next}
use Rattle.quickarclen.proofs.later.Goals as goal

pub loop-i-init : goal.loop-i-init
unfolding time_from
loop-i-init c = refl

pub loop-i-preserved : goal.loop-i-preserved
loop-i-preserved c = rw (c.loop-i.invariant, add-one c.loop-i._i, time_next)

pub returns : goal.returns
returns c =
    let end : c.loop-i._i ≡ c.args.n = omega arith in
    rw (c.loop-i.invariant, end)
