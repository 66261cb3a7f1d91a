-- `quickarclen::walk_bent` meets its contract. The loop's invariant: i steps are gone, and the speeds of those to come are there. Assumes nothing.
use Rattle.arclen.specs.Arclen.{tenth}
use Rattle.quickarclen.specs.Stages.{Ready}
use Rattle.quickarclen.proofs.Walking.{Walking}
use Rattle.quickarclen.proofs.walk_bent.Given as goal

abbrev pub invariant-loop-i : goal.invariant-loop-i
invariant-loop-i l = Walking l.fn.f l.stages l.t l.y l.i × Ready l.fn.f tenth l.t l.v l.i
