-- `fontcrunch::check_report` meets its contract. Assumes nothing.
use mathlib.Core.Path.{refl}
use Rattle.fontcrunch.proofs.check_report.Goals as goal

pub returns-in-Err : goal.returns-in-Err
returns-in-Err c = rw (c.number.ensures, c.in-Err.is) refl

pub returns-in-Ok-true : goal.returns-in-Ok-true
returns-in-Ok-true c = rw (c.in-Ok-true.is, c.in-Ok-true.field-0-test) refl

pub returns-in-Ok-false : goal.returns-in-Ok-false
returns-in-Ok-false c = rw (c.in-Ok-false.is, c.in-Ok-false.field-0-test) refl
