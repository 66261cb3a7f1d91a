-- `measure::error` meets its contract. Assumes nothing.
use Rattle.measure.specs.Measure.{error_of}
use Rattle.measure.proofs.error.Goals as goal

pub returns : goal.returns
unfolding error_of
returns c = rw c.square_distance.ensures
