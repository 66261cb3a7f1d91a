-- `glyfwrite::put::put_bytes` meets its contract. Assumes nothing.
use Prim.Native.Nat.{◌+◌, ◌≤◌}
use lib.ListN.{length, drop}
use Rattle.glyfwrite.proofs.Putting.{Going}
use Rattle.glyfwrite.proofs.put.put_bytes.Given as goal

abbrev pub invariant-loop-b : goal.invariant-loop-b
invariant-loop-b l = Going l.initial.out l.from l.row l.out l.at (drop l.b-index l.row) × (l.b-index ≤ length l.row) × (l.at ≤ l.from + l.b-index)
