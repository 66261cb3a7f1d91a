-- `quickarclen::fill_roots` meets its contract. The loop's invariant is `Roots`. Assumes nothing.
use Rattle.std.proofs.Common.{get_or}
use Rattle.std.specs.Float.{nan}
use Rattle.quickarclen.specs.Stages.{Roots}
use Rattle.quickarclen.proofs.fill_roots.Given as goal

abbrev pub invariant-loop-k : goal.invariant-loop-k
invariant-loop-k l = Roots l.w (get_or l.initial.v 0 nan) l.v l.k
