-- `glyfread::row::copy_words` meets its contract. The loop's invariant: the row's first i places are filled. Assumes nothing.
use Prim.Native.Nat.{◌≤◌}
use Rattle.glyfread.specs.Steps.{words_at}
use Rattle.rows.proofs.Filled.{Filled}
use Rattle.glyfread.proofs.row.copy_words.Given as goal

abbrev pub invariant-loop-i : goal.invariant-loop-i
invariant-loop-i l = Filled (words_at l.bytes l.from l.n) l.initial.row l.row l.i × (l.i ≤ l.n)
