-- `quickmeasure::measure_below` meets its contract: what is told at the first stage is told of the whole. Assumes nothing.
use Rattle.measure.specs.Measure.{measure_of}
use Rattle.measure.specs.Fallen.{fallen_of}
use Rattle.quickmeasure.proofs.Sure.{shown_by}
use Rattle.quickmeasure.proofs.measure_below.Goals as goal

pub judge-requires : goal.judge-requires
judge-requires c =
    (c.set_out-m.ensures.1, λ h. shown_by _ c.set_out-m.ensures.0 c.set_out-m.ensures.1 (c.shows_any.ensures h _))

pub returns : goal.returns
unfolding measure_of fallen_of
returns c = rw (← c.set_out-m.ensures.0) c.judge.ensures
