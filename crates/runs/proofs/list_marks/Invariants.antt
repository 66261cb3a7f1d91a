-- `runs::list_marks` meets its contract. The invariant: the marks passed are listed, and what is left to list follows. Assumes nothing.
use Rattle.std.proofs.Common.{length}
use Rattle.runs.proofs.Listing.{Listing}
use Rattle.runs.proofs.list_marks.Given as goal

abbrev pub invariant-loop-i : goal.invariant-loop-i
invariant-loop-i l = Listing l.marks (length l.initial.list) l.list l.n l.i
