-- `glifread::enter::enter_places` meets its contract. Assumes nothing.
use Rattle.std.proofs.Common.{◌≡◌}
use Rattle.glifread.specs.Enter.{rows, drawn, enter_to}
use Rattle.glifread.proofs.enter.enter_places.Given as goal

abbrev pub invariant-loop-k : goal.invariant-loop-k
invariant-loop-k l =
    drawn l.pen (rows l.xs l.ys l.flags) ≡ enter_to l.points l.from l.k (drawn l.initial.pen (rows l.initial.xs l.initial.ys l.initial.flags))
