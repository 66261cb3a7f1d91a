use mathlib.Core.Path.{refl, ◌∙◌}
use native.Mathlib.Omega.{arith}
use Rattle.samples.proofs.Turns.{sweeps, sweeps_over, swept_all, length_all_lem}
use Rattle.samples.proofs.sweep.Goals as goal

pub returns-in_err-filled : goal.returns-in_err-filled
returns-in_err-filled c =
    rw c.from_residual.ensures record {
      row = sweeps_over c.loop.invariant c.loop-test.true c.step_at-this.ensures
          (c.fill.ensures.row ∙ rw c.in_err-filled.was refl);
      places = omega arith;
      length = refl;
    }

pub loop-preserved : goal.loop-preserved
loop-preserved c =
    sweeps c.loop.invariant c.loop-test.true c.step_at-this.ensures
    (c.fill.ensures.row ∙ rw c.in_ok-filled.was refl)
    c.fill.auto.row
    (rw c.in_ok-filled.was at c.fill.ensures.places)
    c.rk4-y.ensures

pub returns : goal.returns
returns c =
    record { row = swept_all c.loop.invariant c.loop-test.false; places = c.loop.invariant.inside; length = length_all_lem c.loop.invariant c.loop-test.false }
