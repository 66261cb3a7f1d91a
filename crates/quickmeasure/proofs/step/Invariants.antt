-- `quickmeasure::step` meets its contract. The loop's invariant: the rates of the stages passed are known. Assumes nothing.
use mathlib.Core.Path.{◌≡◌}
use lib.ListN.{length}
use Rattle.quickmeasure.proofs.Four.{Rated}
use Rattle.quickmeasure.proofs.step.Given as goal

abbrev pub invariant-loop-k : goal.invariant-loop-k
invariant-loop-k l = (length l.rates ≡ 4) × Rated l.row l.m l.stages l.i l.n l.middle l.end l.rates l.k
