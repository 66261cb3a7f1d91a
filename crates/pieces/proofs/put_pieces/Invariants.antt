-- `pieces::put_pieces` meets its contract. The loop's invariant is `Putting`. Assumes nothing.
use Rattle.pieces.specs.Slots.{piece_of}
use Rattle.pieces.proofs.Going.{Putting}
use Rattle.pieces.proofs.put_pieces.Given as goal

abbrev pub invariant-loop-i : goal.invariant-loop-i
invariant-loop-i l = Putting (piece_of l.answers l.links) l.slots l.first l.initial.starts l.initial.ends l.initial.xs l.initial.ys l.starts l.ends l.xs l.ys l.i
