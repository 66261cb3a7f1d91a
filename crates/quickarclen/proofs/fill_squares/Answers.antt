use Rattle.std.proofs.Common.{◌≡◌, refl, add-one, arith}
use Rattle.quickarclen.specs.Stages.{time_from}
use Rattle.quickarclen.proofs.Filling.{time_next, no_squares, two_more}
use Rattle.quickarclen.proofs.fill_squares.Goals as goal

pub loop-i-init : goal.loop-i-init
unfolding time_from
loop-i-init c = (refl, no_squares c.requires)

pub loop-i-preserved : goal.loop-i-preserved
loop-i-preserved c = (
  rw (c.loop-i.invariant.0, add-one c.loop-i.i, time_next),
  two_more _ _ _ _ _ _ _ _ c.loop-i-test.true c.loop-i.invariant.0 c.loop-i.invariant.1 c.square-middle.ensures c.square.ensures,
)

pub returns : goal.returns
returns c =
    let end : c.loop-i.i ≡ 10 = omega arith in
    rw end at c.loop-i.invariant.1
