-- `corners::tangent_round` meets its contract. The loop's invariant is `Tangents`. Assumes nothing.
use Rattle.corners.proofs.Rounds.{Tangents}
use Rattle.corners.proofs.tangent_round.Given as goal

abbrev pub invariant-loop-k : goal.invariant-loop-k
invariant-loop-k l = Tangents l.xs l.ys l.flags l.m l.initial.marks l.marks l.before l.a l.k
