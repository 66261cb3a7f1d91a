-- `cubics::after_pair` meets its contract. Assumes nothing.
use mathlib.Core.Path.{sym}
use Rattle.cubics.proofs.Making.{after_more, after_none}
use Rattle.cubics.proofs.after_pair.Goals as goal

pub returns-then-n-i-gt2 : goal.returns-then-n-i-gt2
returns-then-n-i-gt2 c = sym (after_more c.args.i c.args.n c.if-n-i-gt2.true)

pub returns-else-n-i-gt2 : goal.returns-else-n-i-gt2
returns-else-n-i-gt2 c = sym (after_none c.args.i c.args.n c.if-n-i-gt2.false)
