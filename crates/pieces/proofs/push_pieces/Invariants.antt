-- `pieces::push_pieces` meets its contract. The loop's invariant is `Pushing`. Assumes nothing.
use Rattle.pieces.specs.Slots.{stored_quad}
use Rattle.pieces.proofs.Going.{Pushing}
use Rattle.pieces.proofs.push_pieces.Given as goal

abbrev pub invariant-loop-i : goal.invariant-loop-i
invariant-loop-i l = Pushing (stored_quad l.breaks l.answers l.links) l.slots l.first l.initial.points l.initial.v l.points l.v l.i
