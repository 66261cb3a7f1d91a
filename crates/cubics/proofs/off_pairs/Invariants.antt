-- `cubics::off_pairs` meets its contract. The invariant: what is left of the row, after n off-curve points, decides. Assumes nothing.
use Prim.Native.Nat.{◌≤◌}
use mathlib.Core.Path.{◌≡◌}
use lib.ListN.{length, drop}
use Rattle.cubics.specs.Refusing.{unpaired_from, off_pairs}
use Rattle.cubics.proofs.off_pairs.Given as goal

abbrev pub invariant-loop-i : goal.invariant-loop-i
invariant-loop-i l = (off_pairs l.flags ≡ unpaired_from (drop l.i l.flags) l.n) × (l.i ≤ length l.flags) × (l.n ≤ l.i)
