-- The laws of `float::by_digits`: the loop is the same.
use Rattle.float.proofs.Squares.{Taken}
use Rattle.rootsteps.proofs.steps.put_turns.Given as goal

abbrev pub invariant-loop-i : goal.invariant-loop-i
invariant-loop-i l = Taken l.word 53 l.s l.i
