-- `segments::place_in` meets its contract. The loop's invariant is `Passing`. Assumes nothing.
use Rattle.segments.proofs.Going.{Passing}
use Rattle.segments.proofs.place_in.Given as goal

abbrev pub invariant-loop-k : goal.invariant-loop-k
invariant-loop-k l = Passing l.ends l.s l.k
