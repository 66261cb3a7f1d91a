-- `clean::insert` meets its contract, by the laws of proofs/Inserting.antt. Assumes nothing.
use Prim.Native.Nat.{◌≤◌}
use Rattle.clean.proofs.Inserting.{Moving}
use Rattle.clean.proofs.insert.Given as goal

abbrev pub invariant-loop-i : goal.invariant-loop-i
invariant-loop-i l = (l.q ≤ l.i) × Moving l.n l.v l.initial.spots l.spots l.i
