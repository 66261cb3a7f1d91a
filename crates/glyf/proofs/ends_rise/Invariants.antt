-- `glyf::ends_rise` meets its contract. The loop's invariant: whether the ends rise is not settled before place i - 1. Assumes nothing.
use Prim.Native.Nat.{◌-◌, ◌≤◌}
use mathlib.Core.Path.{◌≡◌}
use lib.ListN.{drop}
use Rattle.glyf.specs.Layout.{rising}
use Rattle.glyf.proofs.ends_rise.Given as goal

abbrev pub invariant-loop-i : goal.invariant-loop-i
invariant-loop-i l = (1 ≤ l.i) × (rising l.ends ≡ rising (drop (l.i - 1) l.ends))
