-- `idle::put_all` meets its contract. Assumes nothing.
use Rattle.idle.proofs.Restoring.{Putting}
use Rattle.idle.proofs.put_all.Given as goal

abbrev pub invariant-loop-p : goal.invariant-loop-p
invariant-loop-p l = Putting l.kept l.list l.n l.initial.spots l.spots l.j l.p
