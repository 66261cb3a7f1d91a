-- `measure::MeasureFunctor::rate` meets its contract, by the cases of proofs/Steps.antt. Assumes nothing.
use Rattle.measure.proofs.Steps.{no_place, no_direction, both_found}
use Rattle.measure.proofs.MeasureFunctor.rate.Goals as goal

pub returns-in_err-xy : goal.returns-in_err-xy
returns-in_err-xy c = rw c.from_residual.ensures (no_place _ _ _ _ (rw c.in_err-xy.was at c.xy.ensures))

pub returns-in_err-dir : goal.returns-in_err-dir
returns-in_err-dir c =
    rw c.from_residual-in_err-dir.ensures (no_direction _ _ _ _ (rw c.in_ok-xy.was at c.xy.ensures) (rw c.in_err-dir.was at c.dir.ensures))

pub returns : goal.returns
returns c =
    let found = both_found _ _ _ _ (rw c.in_ok-xy.was at c.xy.ensures) (rw c.in_ok-dir.was at c.dir.ensures) in
    record {
      is = rw (c.error.ensures, c.point_at_t-p.ensures, c.speed-v.ensures, c.deriv-d.ensures) found;
      count = c.fallen.ensures.is;
      few = c.fallen.ensures.few;
    }
