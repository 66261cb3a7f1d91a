-- `cubics::replace` meets its contract. Assumes nothing.
use Prim.Native.Nat.{◌≤◌}
use mathlib.Core.Path.{◌≡◌}
use lib.ListN.{length}
use Rattle.cubics.specs.Replacing.{points_to}
use Rattle.cubics.specs.Making.{nothing, Makes}
use Rattle.cubics.proofs.replace.Given as goal

abbrev pub invariant-loop-i : goal.invariant-loop-i
invariant-loop-i l = Makes l.initial.points nothing l.points l.m (points_to l.xs l.ys l.flags l.i) × (length l.points ≡ length l.initial.points) × (l.i ≤ length l.flags)
