-- `quickarclen::lengths` meets its contract. The loop's invariant is `Lengths`. Assumes nothing.
use Rattle.quickarclen.specs.Stages.{Lengths}
use Rattle.quickarclen.proofs.lengths.Given as goal

abbrev pub invariant-loop-i : goal.invariant-loop-i
invariant-loop-i l = Lengths l.h l.y l.v l.at l.i
