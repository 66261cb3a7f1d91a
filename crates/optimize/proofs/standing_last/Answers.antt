-- `optimize::standing_last` meets its contract. Assumes nothing.
use native.Mathlib.Omega.{arith}
use mathlib.Core.Path.{sym}
use Rattle.optimize.proofs.Held.{slot_most}
use Rattle.optimize.proofs.Solving.{solved_at_none, solved_at_some}
use Rattle.optimize.proofs.standing_last.Goals as goal

pub offset_bounds-links-k : goal.offset_bounds-links-k
offset_bounds-links-k c = omega (arith, c.slot_of-k.ensures, slot_most c.args.links.now c.args.n, c.requires.1)

pub bounds-links-k : goal.bounds-links-k
bounds-links-k c = omega (arith, c.slot_of-k.ensures, slot_most c.args.links.now c.args.n, c.requires.0)

pub returns-then-links-k-eq0 : goal.returns-then-links-k-eq0
returns-then-links-k-eq0 c = sym (solved_at_none _ _ _ (rw c.slot_of-k.ensures at c.if-links-k-eq0.true))

pub returns-else-links-k-eq0 : goal.returns-else-links-k-eq0
returns-else-links-k-eq0 c = rw c.slot_of-k.ensures (sym (solved_at_some _ _ _ (λ z. c.if-links-k-eq0.false (rw c.slot_of-k.ensures z))))
