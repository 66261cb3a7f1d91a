-- `lines::line::parse` meets its contract. The loop's invariant: n points are in the rows, and those from `at` on are left. Assumes nothing.
use Prim.Native.Nat.{◌+◌, ◌-◌}
use lib.ListN.{length}
use Rattle.lines.proofs.Parsing.{Reached}
use Rattle.lines.proofs.line.parse.Given as goal

abbrev pub invariant-loop-at : goal.invariant-loop-at
invariant-loop-at l = Reached l.line l.initial.xs l.initial.ys l.initial.flags l.xs l.ys l.flags l.n l.at

abbrev pub decreases-loop-at : goal.decreases-loop-at
decreases-loop-at l = length l.line + 1 - l.at
