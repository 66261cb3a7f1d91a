-- `runs::is_copied_from` meets its contract. Assumes nothing.
use Rattle.std.proofs.Common.{not, ap, eq-eqb, ne_eqb}
use Rattle.runs.proofs.is_copied_from.Goals as goal

pub returns-then-count-eq1 : goal.returns-then-count-eq1
returns-then-count-eq1 c = rw (eq-eqb _ _ c.if-count-eq1.true, ← c.read_from.ensures) (ap not c.is_quad.ensures)

pub returns-else-count-eq1 : goal.returns-else-count-eq1
returns-else-count-eq1 c = rw (ne_eqb _ _ c.if-count-eq1.false)
