-- `contour::put_first` meets its contract. The loop's invariant is `Shifting`. Assumes nothing.
use Rattle.contour.proofs.Closing.{Shifting}
use Rattle.contour.proofs.put_first.Given as goal

abbrev pub invariant-loop-i : goal.invariant-loop-i
invariant-loop-i l = Shifting l.initial.points l.initial.carried l.n l.points l.carried l.i
