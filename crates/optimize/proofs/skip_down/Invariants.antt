-- `optimize::skip_down` meets its contract: each turn passes over one pair, by the law `passed`. Assumes nothing.
use Prim.Native.Nat.{◌≤◌}
use Rattle.optimize.specs.Optimize.{falling}
use Rattle.optimize.specs.Steps.{by_all, Skips}
use Rattle.optimize.proofs.skip_down.Given as goal

abbrev pub invariant-loop-from : goal.invariant-loop-from
invariant-loop-from l =
    (l.from ≤ l.j) × Skips l.breaks l.answers l.links l.i (by_all l.samples l.breaks l.penalty (falling l.j l.i)) (by_all l.samples l.breaks l.penalty (falling l.from l.i))
