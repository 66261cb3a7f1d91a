-- `chain::shape::are_valid` meets its contract. The invariant is `Passing`; the measure is what is left of the pieces. Assumes nothing.
use Prim.Native.Nat.{◌≤◌}
use lib.ListN.{length}
use Rattle.chain.proofs.Along.{Passing}
use Rattle.chain.proofs.shape.are_valid.Given as goal

abbrev pub invariant-loop-i : goal.invariant-loop-i
invariant-loop-i l = (l.i ≤ length l.starts) × Passing l.breaks l.starts l.ends l.xs l.ys l.before l.i
