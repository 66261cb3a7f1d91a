-- `breaks::opens` meets its contract. Assumes nothing.
use mathlib.Core.Path.{sym}
use Rattle.breaks.proofs.Laws.{opens_first, opens_later}
use Rattle.breaks.proofs.opens.Goals as goal

pub returns-then-n-eq0 : goal.returns-then-n-eq0
returns-then-n-eq0 c = sym (opens_first _ _ c.requires _ c.if-n-eq0.true)

pub returns : goal.returns
returns c = rw (c.is_close.ensures, c.read-b.ensures) (sym (opens_later _ _ c.requires _ c.if-n-eq0.false))
