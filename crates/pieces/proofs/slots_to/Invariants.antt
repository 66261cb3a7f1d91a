-- `pieces::slots_to` meets its contract. The loop's invariant is `Walking`; the measure is the stored answer, which goes down. Assumes nothing.
use Rattle.pieces.proofs.Slots.{Walking}
use Rattle.pieces.proofs.slots_to.Given as goal

abbrev pub invariant-loop-at : goal.invariant-loop-at
invariant-loop-at l = Walking l.links l.k l.initial.slots l.slots l.at l.i

abbrev pub decreases-loop-at : goal.decreases-loop-at
decreases-loop-at l = l.at
