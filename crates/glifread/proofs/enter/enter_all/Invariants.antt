-- `glifread::enter::enter_all` meets its contract. Assumes nothing.
use Rattle.std.proofs.Common.{◌≡◌}
use Rattle.glifread.specs.Enter.{rows, entering, enter_up_to}
use Rattle.glifread.proofs.enter.enter_all.Given as goal

abbrev pub invariant-loop-k : goal.invariant-loop-k
invariant-loop-k l =
    entering l.w l.ends (rows l.xs l.ys l.flags) ≡ enter_up_to l.points l.n l.k (entering l.initial.w l.initial.ends (rows l.initial.xs l.initial.ys l.initial.flags))
