-- `fontcrunch::crunch_report` meets its contract. Assumes nothing.
use mathlib.Core.Path.{refl}
use Rattle.fontcrunch.proofs.crunch_report.Goals as goal

pub returns-in-Err : goal.returns-in-Err
returns-in-Err c = rw (c.number.ensures, c.in-Err.is) refl

pub returns-in-Ok : goal.returns-in-Ok
returns-in-Ok c = rw c.in-Ok.is refl
