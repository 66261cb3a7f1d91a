-- `glyfwrite::flags::put_flags` meets its contract. Assumes nothing.
use Prim.Native.Nat.{◌+◌, ◌*◌, ◌<◌, ◌≤◌}
use lib.IntN.{pos}
use lib.ListN.{length, drop}
use Rattle.glyf.specs.Layout.{steps, packed, packed_flags, coded_flags}
use Rattle.glyfwrite.proofs.Putting.{Going}
use Rattle.glyfwrite.proofs.flags.put_flags.Given as goal

abbrev pub invariant-loop-i : goal.invariant-loop-i
invariant-loop-i l = Going l.initial.out l.from (packed_flags (coded_flags l.flags (steps (pos 0) l.xs) (steps (pos 0) l.ys))) l.out l.run.at
    (packed (coded_flags (drop l.i l.flags) (steps l.last_x (drop l.i l.xs)) (steps l.last_y (drop l.i l.ys))) l.run.flag l.run.times) ×
    (l.i ≤ length l.flags) × (l.run.at ≤ l.from + 2 * l.i) × (l.run.flag < 64) × (l.run.times ≤ 256)
