-- `contour::unchanged_closed` meets its contract. The loop's invariant is `Coming`. Assumes nothing.
use Rattle.std.proofs.Common.{length}
use Rattle.contour.proofs.Closing.{Coming}
use Rattle.contour.proofs.unchanged_closed.Given as goal

abbrev pub invariant-loop-i : goal.invariant-loop-i
invariant-loop-i l = Coming l.xs l.ys l.flags (length l.initial.points) l.points l.w l.i
