-- `samples::sweep` meets its contract. The loop's invariant is `Sweeping`. Assumes nothing.
use Rattle.samples.proofs.Turns.{Sweeping}
use Rattle.samples.proofs.sweep.Given as goal

abbrev pub invariant-loop : goal.invariant-loop
invariant-loop l = Sweeping l.q l.f l.initial.row l.initial.n l.initial.ix l.initial.last l.initial.y l.row l.n l.ix l.last l.t l.y l.counter
