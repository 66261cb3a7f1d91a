use mathlib.Core.Path.{refl, ap, ◌∙◌}
use native.Mathlib.Omega.{arith}
use Rattle.samples.specs.Samples.{quad_of}
use Rattle.samples.proofs.Turns.{begins, runs, runs_over, run_all}
use Rattle.samples.proofs.sample_run.Goals as goal

pub loop-init : goal.loop-init
loop-init c = begins _ _ _ _ _ _ _ c.begin-w.ensures (rw c.start_of-a.ensures refl)

pub returns-in_err-w : goal.returns-in_err-w
returns-in_err-w c =
    rw c.from_residual.ensures record { row = runs_over _ _ _ _ _ c.loop.invariant c.loop-test.true (c.as_quad-q.ensures ∙ ap quad_of c.read_from.ensures) (c.sweep.ensures.row ∙ rw c.in_err-w.was refl); places = omega arith }

pub loop-preserved : goal.loop-preserved
loop-preserved c =
    runs _ _ _ _ _ c.loop.invariant c.loop-test.true (c.as_quad-q.ensures ∙ ap quad_of c.read_from.ensures) c.end_of-a.ensures
    (c.sweep.ensures.row ∙ rw c.in_ok-w.was refl)
    (rw c.in_ok-w.was at c.sweep.ensures.length)
    c.sweep.auto.row
    (rw c.in_ok-w.was at c.sweep.ensures.places)

pub returns : goal.returns
returns c =
    record { row = run_all _ _ _ _ _ c.loop.invariant c.loop-test.false ∙ c.finish.ensures.row; places = omega (arith, c.loop.invariant.long, c.finish.ensures.places) }
