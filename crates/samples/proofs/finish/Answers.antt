-- `samples::finish` meets its contract. Assumes nothing.
use mathlib.Core.Path.{refl}
use native.Mathlib.Omega.{arith}
use Rattle.samples.specs.Samples.{finished, filled}
use Rattle.samples.proofs.finish.Goals as goal

pub returns : goal.returns
unfolding finished filled
returns c =
    record { row = rw (← c.new-f.ensures, ← c.deriv-d.ensures, c.fill.ensures.row, c.in_ok-filled.was) refl; places = rw c.in_ok-filled.was at c.fill.ensures.places }

pub returns-in_err-filled : goal.returns-in_err-filled
unfolding finished filled
returns-in_err-filled c =
    rw c.from_residual.ensures record { row = rw (← c.new-f.ensures, ← c.deriv-d.ensures, c.fill.ensures.row, c.in_err-filled.was) refl; places = omega arith }
