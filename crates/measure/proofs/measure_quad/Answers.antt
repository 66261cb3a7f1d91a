-- `measure::measure_quad` meets its contract. Assumes nothing.
use Rattle.measure.specs.Measure.{measure_of}
use Rattle.measure.specs.Fallen.{fallen_of}
use Rattle.measure.proofs.measure_quad.Goals as goal

pub returns : goal.returns
unfolding measure_of fallen_of
returns c =
    rw (← c.arclen.ensures, ← c.stretch-ss.ensures, ← c.new-af.ensures) c.walk.ensures
