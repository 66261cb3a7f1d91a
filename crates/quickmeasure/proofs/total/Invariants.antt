-- `quickmeasure::total` meets its contract. The loop's invariant: the error so far is the sum of the terms so far, and n is the node of the step's start.
-- Assumes nothing.
use mathlib.Core.Path.{◌≡◌}
use Rattle.arclen.specs.Arclen.{tenth}
use Rattle.quickarclen.specs.Stages.{time_at}
use Rattle.quickmeasure.specs.Terms.{node_of, term_in, sums_of}
use Rattle.quickmeasure.proofs.total.Given as goal

abbrev pub invariant-loop-i : goal.invariant-loop-i
invariant-loop-i l = (l.e ≡ sums_of (term_in l.af l.q l.stages l.seen) l.i) × (l.n ≡ node_of l.af l.q (time_at tenth l.i))
