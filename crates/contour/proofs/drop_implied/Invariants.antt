-- `contour::drop_implied` meets its contract. The loop's invariant is `Dropping`. Assumes nothing.
use Rattle.std.proofs.Common.{◌-◌}
use Rattle.contour.specs.Implied.{is_implied, first_place}
use Rattle.contour.proofs.Dropping.{Dropping}
use Rattle.contour.proofs.drop_implied.Given as goal

abbrev pub invariant-loop-i : goal.invariant-loop-i
invariant-loop-i l = Dropping (is_implied l.closed) l.initial.points l.points l.n (first_place l.closed) l.left l.i

abbrev pub decreases-loop-i : goal.decreases-loop-i
decreases-loop-i l = l.left - l.i
