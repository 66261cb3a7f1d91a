-- `why::state_at` meets its contract. The loop's invariant is `Walked`. Assumes nothing.
use Rattle.why.proofs.Walking.{Walked}
use Rattle.why.proofs.state_at.Given as goal

abbrev pub invariant-loop-i : goal.invariant-loop-i
invariant-loop-i l = Walked l.xs l.ys l.flags l.k l.initial.s l.s l.a l._i
