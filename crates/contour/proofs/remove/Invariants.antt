-- `contour::remove` meets its contract. The loop's invariant is `Moving`. Assumes nothing.
use Rattle.contour.proofs.Dropping.{Moving}
use Rattle.contour.proofs.remove.Given as goal

abbrev pub invariant-loop-i : goal.invariant-loop-i
invariant-loop-i l = Moving l.initial.points l.points l.at l.n l.i
