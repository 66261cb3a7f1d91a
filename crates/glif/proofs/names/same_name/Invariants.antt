-- `glif::names::same_name` meets its contract. The loop's invariant: whether the names are one is not settled before the two places. Assumes nothing.
use Prim.Native.Nat.{◌-◌}
use mathlib.Core.Path.{◌≡◌}
use lib.ListN.{length, drop}
use Rattle.glif.specs.Names.{alike, same_name}
use Rattle.glif.proofs.names.same_name.Given as goal

abbrev pub invariant-loop-i : goal.invariant-loop-i
invariant-loop-i l = same_name l.bytes l.p l.q ≡ alike (drop l.i l.bytes) (drop l.j l.bytes)

abbrev pub decreases-loop-i : goal.decreases-loop-i
decreases-loop-i l = length l.bytes - l.i
