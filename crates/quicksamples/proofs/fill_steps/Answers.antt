use mathlib.Core.Path.{refl, ◌∙◌}
use native.Mathlib.Omega.{arith}
use Rattle.quicksamples.proofs.Turns.{steps, steps_over, steps_all}
use Rattle.quicksamples.proofs.fill_steps.Goals as goal

pub returns-in_err-filled : goal.returns-in_err-filled
returns-in_err-filled c =
    rw c.from_residual.ensures record {
      row = steps_over c.loop-i.invariant.2 c.loop-i-test.true c.step_at-this.ensures (c.fill.ensures.row ∙ rw c.in_err-filled.was refl);
      places = omega arith;
      len = refl;
    }

pub loop-i-preserved : goal.loop-i-preserved
loop-i-preserved c = (
  c.loop-i.invariant.0,
  c.loop-i.invariant.1,
  steps c.loop-i.invariant.2 c.loop-i-test.true c.step_at-this.ensures (c.fill.ensures.row ∙ rw c.in_ok-filled.was refl) c.fill.auto.row
      (rw c.in_ok-filled.was at c.fill.ensures.places),
)

pub returns : goal.returns
returns c =
    record { row = steps_all c.loop-i.invariant.2 c.loop-i-test.false; places = c.loop-i.invariant.2.inside; len = refl }
