-- `measure::MeasureFunctor::walk` meets its contract. The loop's invariant is `Walking`. Assumes nothing.
use Rattle.measure.proofs.Steps.{Walking}
use Rattle.measure.proofs.MeasureFunctor.walk.Given as goal

abbrev pub invariant-loop : goal.invariant-loop
invariant-loop l = Walking l.row l.self l.t l.y l.fallen l.counter
