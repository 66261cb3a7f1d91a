-- `attempt::answer::Answer::goes_on` meets its contract. Assumes nothing.
use mathlib.Core.Bool.{true, false}
use mathlib.Core.Path.{sym, ◌∙◌}
use Rattle.attempt.proofs.Against.{smooth_on}
use Rattle.attempt.proofs.answer.Answer.goes_on.Goals as goal

pub returns-then-is_curve : goal.returns-then-is_curve
returns-then-is_curve c =
    c.is_smooth.ensures ∙ smooth_on c.args.self c.args.q true (sym c.if-is_curve.true ∙ c.is_curve.ensures)

pub returns : goal.returns
returns c =
    smooth_on c.args.self c.args.q false (sym c.if-is_curve.false ∙ c.is_curve.ensures)
