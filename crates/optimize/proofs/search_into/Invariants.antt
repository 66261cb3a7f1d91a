-- `optimize::search_into` meets its contract. The loop's invariant is `Reaching`; the measure is j. Assumes nothing.
use Prim.Native.Nat.{◌≤◌}
use Rattle.optimize.specs.Optimize.{measure_by, falling}
use Rattle.optimize.specs.Fallen.{fallen_between}
use Rattle.optimize.specs.Stored.{late}
use Rattle.optimize.proofs.Phases.{Reaching}
use Rattle.optimize.proofs.search_into.Given as goal

abbrev pub invariant-loop-j : goal.invariant-loop-j
invariant-loop-j l =
    (l.j ≤ l.i) × Reaching (measure_by l.samples l.breaks) (fallen_between l.samples l.breaks) l.penalty l.n l.breaks (late l.i) l.initial.answers l.initial.links (falling l.i l.i) (late l.i) l.answers l.links l.fallen (falling l.j l.i)

abbrev pub decreases-loop-j : goal.decreases-loop-j
decreases-loop-j l = l.j
