-- `outline::place_after` meets its contract. The loop's invariant: so many segments as were passed end at place. Assumes nothing.
use Rattle.std.proofs.Common.{◌≡◌}
use Rattle.outline.specs.Segments.{place_after}
use Rattle.outline.proofs.place_after.Given as goal

abbrev pub invariant-loop-i : goal.invariant-loop-i
invariant-loop-i l = l.place ≡ place_after l.flags l.a l._i
