-- `corners::sign_round` meets its contract. The loop's invariant is `Signs`. Assumes nothing.
use Rattle.corners.proofs.Rounds.{Signs}
use Rattle.corners.proofs.sign_round.Given as goal

abbrev pub invariant-loop-k : goal.invariant-loop-k
invariant-loop-k l = Signs l.xs l.ys l.flags l.m l.initial.marks l.initial.s l.marks l.s l.a l.k
