-- `glyfwrite::difference::put_steps` meets its contract. Assumes nothing.
use mathlib.Core.List.{map}
use Prim.Native.Nat.{◌+◌, ◌*◌, ◌≤◌}
use lib.IntN.{pos}
use lib.ListN.{length, drop}
use Rattle.glyf.specs.Layout.{steps, code_of, joined}
use Rattle.glyfwrite.proofs.Putting.{Going}
use Rattle.glyfwrite.proofs.difference.put_steps.Given as goal

abbrev pub invariant-loop-z : goal.invariant-loop-z
invariant-loop-z l = Going l.initial.out l.from (joined (map code_of (steps (pos 0) l.row))) l.out l.at (joined (map code_of (steps l.last (drop l.z-index l.row)))) × (l.z-index ≤ length l.row) × (l.at ≤ l.from + 2 * l.z-index)
