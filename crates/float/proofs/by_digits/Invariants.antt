-- `float::by_digits` meets its contract. The loop's invariant is `Taken`. Assumes nothing.
use Rattle.float.proofs.Squares.{Taken}
use Rattle.float.proofs.by_digits.Given as goal

abbrev pub invariant-loop-i : goal.invariant-loop-i
invariant-loop-i l = Taken l.w l.turns l.s l._i
