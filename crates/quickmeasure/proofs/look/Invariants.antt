-- `quickmeasure::look` meets its contract. The loop's invariant: what the samples have at the stages passed is written. Assumes nothing.
use mathlib.Core.Path.{◌≡◌}
use lib.ListN.{length}
use Rattle.quickmeasure.specs.Terms.{Seen}
use Rattle.quickmeasure.proofs.look.Given as goal

abbrev pub invariant-loop-k : goal.invariant-loop-k
invariant-loop-k l = (length l.seen ≡ 40) × Seen l.row l.m l.stages l.seen l.k
