-- `chain::shape::leads` meets its contract. The invariant is `Leading`; the measure is what is left of the pieces. Assumes nothing.
use Prim.Native.Nat.{◌≤◌}
use lib.ListN.{length}
use Rattle.chain.proofs.Along.{Leading}
use Rattle.chain.proofs.shape.leads.Given as goal

abbrev pub invariant-loop-i : goal.invariant-loop-i
invariant-loop-i l = (l.i ≤ length l.starts) × Leading l.starts l.ends l.n l.at l.i
