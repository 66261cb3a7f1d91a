-- `segments::fill_ends` meets its contract. The loop's invariant is `Ending`. Assumes nothing.
use lib.ListN.{length}
use Rattle.samples.specs.Samples.{quads_of}
use Rattle.segments.proofs.Going.{Ending}
use Rattle.segments.proofs.fill_ends.Given as goal

abbrev pub invariant-loop-k : goal.invariant-loop-k
invariant-loop-k l = Ending l.xs l.ys l.flags (quads_of l.xs l.ys l.flags l.first l.n) l.n (length l.initial.ends) l.ends l.a l.y l.k
