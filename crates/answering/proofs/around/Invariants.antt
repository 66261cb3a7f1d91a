-- The point before lies in the rows too.
use Rattle.std.proofs.Common.{◌≤◌, ◌<◌, length}
use Rattle.answering.proofs.around.Given as goal

abbrev pub invariant-loop-i : goal.invariant-loop-i
invariant-loop-i l = (l.n ≤ length l.xs) × (l.n ≤ length l.ys) × (l.j < l.n)
