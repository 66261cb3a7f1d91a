-- `quickarclen::walk_straight` meets its contract. The loop's invariant: i steps are gone. Assumes nothing.
use Rattle.quickarclen.proofs.Walking.{Walking}
use Rattle.quickarclen.proofs.walk_straight.Given as goal

abbrev pub invariant-loop-i : goal.invariant-loop-i
invariant-loop-i l = Walking l.fn.f l.stages l.t l.y l.i
