-- `settings::Settings::judge` meets its contract. Assumes nothing.
use Rattle.refusals.proofs.Passing.{handed_up}
use Rattle.settings.proofs.Judging.{of_rows, of_settings}
use Rattle.settings.proofs.Settings.judge.Goals as goal

pub returns-in_err-judge : goal.returns-in_err-judge
returns-in_err-judge c =
    rw (handed_up c.from_residual.result _ c.from_residual.ensures.1) (of_rows _ _ _ _ c.judge.ensures c.in_err-judge.was)

pub returns-then-is_fine : goal.returns-then-is_fine
returns-then-is_fine c = of_settings _ _ _ _ c.judge.ensures c.in_ok-judge.was c.is_fine.ensures c.if-is_fine.true

pub returns : goal.returns
returns c = of_settings _ _ _ _ c.judge.ensures c.in_ok-judge.was c.is_fine.ensures c.if-is_fine.false
