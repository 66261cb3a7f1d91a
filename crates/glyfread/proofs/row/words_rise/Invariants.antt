-- `glyfread::row::words_rise` meets its contract. The loop's invariant: whether the words rise is not settled before place i - 1. Assumes nothing.
use Prim.Native.Nat.{◌-◌, ◌≤◌}
use mathlib.Core.Path.{◌≡◌}
use lib.ListN.{drop}
use Rattle.glyf.specs.Layout.{rising}
use Rattle.glyfread.specs.Steps.{words_at}
use Rattle.glyfread.proofs.row.words_rise.Given as goal

abbrev pub invariant-loop-i : goal.invariant-loop-i
invariant-loop-i l = (1 ≤ l.i) × (rising (words_at l.bytes l.from l.n) ≡ rising (drop (l.i - 1) (words_at l.bytes l.from l.n)))
