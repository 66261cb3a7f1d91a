-- `optimize::bend_in_place` meets its contract. Assumes nothing.
use native.Mathlib.Omega.{arith}
use mathlib.Core.Path.{◌≡◌, refl, sym, ◌∙◌}
use Rattle.optimize.proofs.One.{bend_none, bend_by}
use Rattle.std.specs.Prelude.{Some, None}
use Rattle.optimize.proofs.bend_in_place.Goals as goal

pub returns-in_default : goal.returns-in_default
returns-in_default c = bend_none _ _ (sym c.in_default.is ∙ c.intersect.ensures)

pub returns-in_err-counted : goal.returns-in_err-counted
returns-in_err-counted c =
    let gone : c.from_residual.result ≡ None = grind arith in
    rw gone
    (bend_by c.args.samples.now c.args.a _ _ (sym c.in-Some.is ∙ c.intersect.ensures) c.round-p1.ensures None
    (rw c.in_err-counted.was at c.measure_quad.ensures) refl)

pub returns : goal.returns
returns c =
    let told = rw c.in_ok-counted.was at c.measure_quad.ensures in
    bend_by c.args.samples.now c.args.a _ _ (sym c.in-Some.is ∙ c.intersect.ensures) c.round-p1.ensures (Some _) told.0 told.1
