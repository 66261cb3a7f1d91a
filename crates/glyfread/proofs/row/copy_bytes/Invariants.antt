-- `glyfread::row::copy_bytes` meets its contract. The loop's invariant: the row's first i places are filled. Assumes nothing.
use Prim.Native.Nat.{◌≤◌}
use lib.ListN.{take, drop}
use Rattle.rows.proofs.Filled.{Filled}
use Rattle.glyfread.proofs.row.copy_bytes.Given as goal

abbrev pub invariant-loop-i : goal.invariant-loop-i
invariant-loop-i l = Filled (take l.n (drop l.from l.bytes)) l.initial.row l.row l.i × (l.i ≤ l.n)
