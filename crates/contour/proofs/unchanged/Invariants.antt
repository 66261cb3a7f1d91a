-- `contour::unchanged` meets its contract. The loop's invariant is `Going`. Assumes nothing.
use Rattle.std.proofs.Common.{length}
use Rattle.contour.proofs.Pushing.{Going}
use Rattle.contour.proofs.unchanged.Given as goal

abbrev pub invariant-loop-k : goal.invariant-loop-k
invariant-loop-k l = Going l.xs l.ys l.flags l.m (length l.initial.points) l.points l.w l.a l._k
