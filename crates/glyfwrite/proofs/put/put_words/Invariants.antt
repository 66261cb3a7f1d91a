-- `glyfwrite::put::put_words` meets its contract. Assumes nothing.
use mathlib.Core.List.{map}
use Prim.Native.Nat.{◌+◌, ◌*◌, ◌≤◌}
use lib.ListN.{length, drop}
use Rattle.glyf.specs.Layout.{word_bytes, joined}
use Rattle.glyfwrite.proofs.Putting.{Going}
use Rattle.glyfwrite.proofs.put.put_words.Given as goal

abbrev pub invariant-loop-v : goal.invariant-loop-v
invariant-loop-v l = Going l.initial.out l.from (joined (map word_bytes l.row)) l.out l.at (joined (map word_bytes (drop l.v-index l.row))) × (l.v-index ≤ length l.row) × (l.at ≤ l.from + 2 * l.v-index)
