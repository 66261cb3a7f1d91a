-- `quickmeasure::judge` meets its contract. The loop's invariant: e is the error after i steps, and n is the node of the step's start. Assumes nothing.
use mathlib.Core.Path.{◌≡◌}
use Rattle.arclen.specs.Arclen.{tenth}
use Rattle.quickarclen.specs.Stages.{time_at}
use Rattle.quickmeasure.specs.Terms.{node_of}
use Rattle.quickmeasure.proofs.Early.{Going}
use Rattle.quickmeasure.proofs.judge.Given as goal

abbrev pub invariant-loop-i : goal.invariant-loop-i
invariant-loop-i l = Going l.row l.m l.stages l.i l.e × (l.n ≡ node_of l.m.af l.m.q (time_at tenth l.i))
