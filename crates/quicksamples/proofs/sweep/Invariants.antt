-- `quicksamples::sweep` meets its contract. The loop's invariant is `Sweeping`. Assumes nothing.
use Rattle.quicksamples.proofs.Turns.{Sweeping}
use Rattle.quicksamples.proofs.sweep.Given as goal

abbrev pub invariant-loop : goal.invariant-loop
invariant-loop l = Sweeping l.q l.f l.straight l.initial.row l.initial.w l.row l.w l.t l.v l.counter
