-- `segments::name_each` meets its contract. The loop's invariant is `Making`. Assumes nothing.
use mathlib.Core.List.{[]}
use Rattle.segments.specs.Segments.{named_of}
use Rattle.segments.proofs.Going.{Making}
use Rattle.segments.proofs.name_each.Given as goal

abbrev pub invariant-loop-b : goal.invariant-loop-b
invariant-loop-b l = Making (named_of l.ends l.first l.total) [] l.initial.b-items l.b-items l.b-index
