-- `quickmeasure::measure_quad` meets its contract. Assumes nothing.
use mathlib.Core.Path.{sym, ◌∙◌}
use Rattle.measure.specs.Measure.{measure_of}
use Rattle.measure.specs.Fallen.{fallen_of}
use Rattle.quickmeasure.proofs.Asked.{counted}
use Rattle.quickmeasure.proofs.Sure.{shown_by}
use Rattle.quickmeasure.proofs.measure_quad.Goals as goal

pub returns-in_err-measure : goal.returns-in_err-measure
unfolding measure_of
returns-in_err-measure c = rw (c.from_residual.ensures, ← c.set_out-m.ensures.0) (sym c.walk.ensures ∙ c.in_err-measure.was)

pub fallen-requires : goal.fallen-requires
fallen-requires c =
    λ h. shown_by _ c.set_out-m.ensures.0 c.set_out-m.ensures.1 (c.shows_any.ensures h _)

pub returns : goal.returns
unfolding measure_of fallen_of
returns c =
    let is = sym c.walk.ensures ∙ c.in_ok-measure.was in
    rw (← c.set_out-m.ensures.0) (is, c.fallen.ensures ∙ sym (counted _ _ _ c.set_out-m.ensures.1 _ is))
