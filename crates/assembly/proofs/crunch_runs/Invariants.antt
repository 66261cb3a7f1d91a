-- `assembly::crunch_runs` meets its contract. The invariant: what is left from run k on, after the points so far, is what there was to do. Assumes nothing.
use Prim.Native.Nat.{◌-◌}
use lib.ListN.{length}
use Rattle.assembly.proofs.Going.{Running}
use Rattle.assembly.proofs.crunch_runs.Given as goal

abbrev pub invariant-loop-k : goal.invariant-loop-k
invariant-loop-k l = Running l.xs l.ys l.flags l.stops l.settings l.initial.samples l.initial.breaks l.initial.answers l.initial.links l.initial.points l.initial.p l.samples l.breaks l.answers l.links l.points l.p l.k
