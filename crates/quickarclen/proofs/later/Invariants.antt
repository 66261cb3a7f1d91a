-- `quickarclen::later` meets its contract. Assumes nothing.
use Rattle.std.proofs.Common.{◌≡◌}
use Rattle.quickarclen.specs.Stages.{time_from}
use Rattle.quickarclen.proofs.later.Given as goal

abbrev pub invariant-loop-i : goal.invariant-loop-i
invariant-loop-i l = l.at ≡ time_from l.h l.t l._i
