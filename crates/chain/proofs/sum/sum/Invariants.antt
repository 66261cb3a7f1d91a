-- `chain::sum::sum` meets its contract. The invariant is `Summing`; the measure is what is left of the pieces. Assumes nothing.
use Prim.Native.Nat.{◌≤◌}
use lib.ListN.{length}
use Rattle.chain.proofs.Along.{Summing, Falling}
use Rattle.chain.proofs.sum.sum.Given as goal

abbrev pub invariant-loop-i : goal.invariant-loop-i
invariant-loop-i l =
    (l.i ≤ length l.starts) × Summing l.samples l.breaks l.penalty l.starts l.ends l.xs l.ys l.before l.s l.i × Falling l.samples l.breaks l.starts l.ends l.xs l.ys l.fallen l.i
