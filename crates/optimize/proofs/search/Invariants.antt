-- `optimize::search` meets its contract. The loop's invariant is `Reaching`, and where the search has come to. Assumes nothing.
use Prim.Native.Nat.{◌+◌, ◌-◌, ◌≤◌, ◌<◌}
use Rattle.optimize.specs.Optimize.{measure_by, search, search_from}
use Rattle.optimize.specs.Fallen.{fallen_between}
use Rattle.optimize.specs.Stored.{late}
use Rattle.optimize.proofs.Phases.{Reaching}
use Rattle.optimize.proofs.search.Given as goal

abbrev pub invariant-loop-i : goal.invariant-loop-i
invariant-loop-i l =
    (0 < l.i) × (l.i ≤ l.n + 1) ×
    Reaching (measure_by l.samples l.breaks) (fallen_between l.samples l.breaks) l.penalty l.n l.breaks (late 1) l.initial.answers l.initial.links (search l.n) (late l.i) l.answers l.links l.fallen (search_from (l.n + 1 - l.i) l.i)
