-- `quickbreaks::nearer` meets its contract: of two roots one is less at most, by the law `not_both`. Assumes nothing.
use mathlib.Core.Path.{sym}
use Rattle.float.proofs.Less.{not_both}
use Rattle.quickbreaks.proofs.nearer.Goals as goal

pub returns-then-surely_less-2 : goal.returns-then-surely_less-2
returns-then-surely_less-2 c = sym (not_both _ _ (c.surely_less-2.ensures c.if-surely_less-2.true))
