-- `segments::length_after` meets its contract. The loop's invariant is `Stepping`. Assumes nothing.
use Rattle.segments.proofs.Going.{Stepping}
use Rattle.segments.proofs.length_after.Given as goal

abbrev pub invariant-loop : goal.invariant-loop
invariant-loop l = Stepping l.f l.y l.t l.at l.counter
