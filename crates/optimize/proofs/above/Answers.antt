-- `optimize::above` meets its contract. Assumes nothing.
use native.Mathlib.Omega.{arith}
use mathlib.Core.Path.{sym}
use Rattle.optimize.proofs.Held.{slot_most}
use Rattle.optimize.proofs.Solving.{above_none, above_some}
use Rattle.optimize.proofs.above.Goals as goal

pub offset_bounds-links-k : goal.offset_bounds-links-k
offset_bounds-links-k c = omega (arith, c.slot_of-k.ensures, slot_most c.args.links.now c.args.n, c.requires.2)

pub bounds-links-k : goal.bounds-links-k
bounds-links-k c = omega (arith, c.slot_of-k.ensures, slot_most c.args.links.now c.args.n, c.requires.0)

pub returns-then-links-k-eq0 : goal.returns-then-links-k-eq0
returns-then-links-k-eq0 c = sym (above_none _ _ _ _ (rw c.slot_of-k.ensures at c.if-links-k-eq0.true))

pub offset_bounds-answers-k : goal.offset_bounds-answers-k
offset_bounds-answers-k c = omega (arith, c.slot_of-k.ensures, slot_most c.args.links.now c.args.n, c.requires.2)

pub bounds-answers-k : goal.bounds-answers-k
bounds-answers-k c = omega (arith, c.slot_of-k.ensures, slot_most c.args.links.now c.args.n, c.requires.1)

pub returns : goal.returns
returns c = rw c.slot_of-k.ensures (sym (above_some _ _ _ _ (λ z. c.if-links-k-eq0.false (rw c.slot_of-k.ensures z))))
