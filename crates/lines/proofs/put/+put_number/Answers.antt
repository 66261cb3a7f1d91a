use Rattle.lines.proofs.Texts.{joined}
use Rattle.lines.proofs.Digits.{one_digit, more_digits}
use Rattle.lines.proofs.put.+put_number.Goals as goal

pub returns-then-n-lt10 : goal.returns-then-n-lt10
returns-then-n-lt10 t c = rw (one_digit _ c.if-n-lt10.true) c.put_byte.ensures

pub returns : goal.returns
returns t c = rw (more_digits _ c.if-n-lt10.false) (joined c.put_number-a.ensures c.put_byte-2.ensures)
