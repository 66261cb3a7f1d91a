-- `checks::check_fine` meets its contract. Assumes nothing.
use Rattle.checks.proofs.check_fine.Goals as goal

pub returns-in-None : goal.returns-in-None
returns-in-None c = rw (← c.numbered_run.ensures, c.in-None.is) c.refused.ensures

pub returns-in-Some : goal.returns-in-Some
returns-in-Some c = rw (← c.numbered_run.ensures, c.in-Some.is) c.check_run.ensures
