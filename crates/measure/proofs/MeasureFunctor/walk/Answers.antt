use Rattle.measure.proofs.Steps.{sets_out, steps_on, stops_here_lem, arrives}
use Rattle.measure.proofs.MeasureFunctor.walk.Goals as goal

pub loop-init : goal.loop-init
loop-init c = sets_out _ _

pub returns-in_err-next : goal.returns-in_err-next
returns-in_err-next c =
    rw c.from_residual.ensures (stops_here_lem _ _ c.loop.invariant c.loop-test.true (rw c.in_err-next.was at c.rk4.ensures))

pub loop-preserved : goal.loop-preserved
loop-preserved c =
    steps_on _ _ c.loop.invariant c.loop-test.true (rw c.in_ok-next.was at c.rk4.ensures)

pub returns : goal.returns
returns c = arrives _ _ c.loop.invariant c.loop-test.false
