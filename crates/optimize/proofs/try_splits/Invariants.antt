-- `optimize::try_splits` meets its contract. The loop's invariant is `Reaching`, and where the splits have come to. Assumes nothing.
use Prim.Native.Nat.{◌-◌, ◌≤◌, ◌<◌}
use Rattle.optimize.specs.Optimize.{measure_by, splits, splits_from}
use Rattle.optimize.specs.Fallen.{fallen_between}
use Rattle.optimize.specs.Stored.{early}
use Rattle.optimize.proofs.Phases.{Reaching}
use Rattle.optimize.proofs.try_splits.Given as goal

abbrev pub invariant-loop-i : goal.invariant-loop-i
invariant-loop-i l =
    (0 < l.i) × (l.i ≤ l.n) ×
    Reaching (measure_by l.samples l.breaks) (fallen_between l.samples l.breaks) l.penalty l.n l.breaks (early 1) l.initial.answers l.initial.links (splits l.n) (early l.i) l.answers l.links l.fallen (splits_from (l.n - l.i) l.i l.n)
