-- `checks::check_judged` meets its contract. Assumes nothing.
use Rattle.checks.proofs.check_judged.Goals as goal

pub returns-in-Err : goal.returns-in-Err
returns-in-Err c = rw (← c.judge.ensures, c.in-Err.is) c.refused.ensures

pub returns-in-Ok : goal.returns-in-Ok
returns-in-Ok c = rw (← c.judge.ensures, c.in-Ok.is) c.check_fine.ensures
