-- `quickmeasure::all_before` meets its contract. The loop's invariant: the stages passed lie before the end. Assumes nothing.
use Rattle.quickmeasure.specs.Terms.{Before}
use Rattle.quickmeasure.proofs.all_before.Given as goal

abbrev pub invariant-loop-k : goal.invariant-loop-k
invariant-loop-k l = Before l.m l.stages l.end l.k
