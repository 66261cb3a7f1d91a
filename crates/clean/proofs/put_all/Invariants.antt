-- `clean::put_all` meets its contract. Assumes nothing.
use Rattle.clean.proofs.Restoring.{Restoring}
use Rattle.clean.proofs.put_all.Given as goal

abbrev pub invariant-loop-j : goal.invariant-loop-j
invariant-loop-j l = Restoring l.kept l.list l.initial.spots l.spots l.n l.j
