-- `explicit::put_all` meets its contract. The loop's invariant is `Putting`. Assumes nothing.
use lib.ListN.{length}
use Rattle.rows.specs.Lent.{inputs}
use Rattle.explicit.specs.Explicit.{points_of, turned}
use Rattle.explicit.proofs.Turning.{Putting}
use Rattle.explicit.proofs.put_all.Given as goal

abbrev pub invariant-loop-k : goal.invariant-loop-k
invariant-loop-k l = Putting (turned l.start (points_of (inputs l.xs l.ys l.flags))) (length l.initial.points) l.points l.w l.prev l.k
