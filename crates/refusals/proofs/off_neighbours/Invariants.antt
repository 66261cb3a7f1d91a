-- `refusals::off_neighbours` meets its contract. The loop's invariant: whether two neighbours are off-curve is not settled before
-- place i - 1. Assumes nothing.
use Prim.Native.Nat.{◌-◌, ◌≤◌}
use mathlib.Core.Path.{◌≡◌}
use lib.ListN.{length, drop}
use Rattle.refusals.specs.Refusals.{off_neighbours}
use Rattle.refusals.proofs.off_neighbours.Given as goal

abbrev pub invariant-loop-i : goal.invariant-loop-i
invariant-loop-i l = (1 ≤ l.i) × (off_neighbours (drop (l.i - 1) l.flags) ≡ off_neighbours l.flags)
