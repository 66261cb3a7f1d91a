-- `contour::is_midway` meets its contract. Assumes nothing.
use Rattle.std.proofs.Common.{◌∙◌, ap}
use borrow.Author.Rules.{sfits_of}
use Rattle.contour.specs.Implied.{same, halfway}
use Rattle.contour.proofs.Sixteen.{same_bits, middle_back, midway_back}
use Rattle.contour.proofs.is_midway.Goals as goal

pub returns-then-closed : goal.returns-then-closed
returns-then-closed c =
    rw c.if-closed.true
    (c.is_halfway.ensures ∙ midway_back halfway c.args.prev c.args.this c.args.next c.ranges.prev c.ranges.this c.ranges.next)

pub returns : goal.returns
returns c =
    rw c.if-closed.false
    (same_bits {b = c.middle.result} c.ranges.this (sfits_of c.middle.type_inv)
    ∙ ap (same c.args.this) (c.middle.ensures ∙ middle_back c.args.prev c.args.next c.ranges.prev c.ranges.next))
