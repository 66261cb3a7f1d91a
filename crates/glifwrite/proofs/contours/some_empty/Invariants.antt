-- `glifwrite::contours::some_empty` meets its contract. Assumes nothing.
use Rattle.std.proofs.Common.{◌≡◌}
use Rattle.glifwrite.specs.Contours.{empty_to}
use Rattle.glifwrite.proofs.contours.some_empty.Given as goal

abbrev pub invariant-loop-k : goal.invariant-loop-k
invariant-loop-k l = l.found ≡ empty_to l.ends l.k
