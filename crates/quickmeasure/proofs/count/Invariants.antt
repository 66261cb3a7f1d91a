-- `quickmeasure::count` meets its contract. The loop's invariant: n counts the stages passed, so that it is at most twice their number. Assumes nothing.
use mathlib.Core.Path.{◌≡◌}
use Rattle.quickmeasure.specs.Counting.{fallen_below}
use Rattle.quickmeasure.proofs.count.Given as goal

abbrev pub invariant-loop-k : goal.invariant-loop-k
invariant-loop-k l = l.n ≡ fallen_below l.row l.m l.stages l.k
