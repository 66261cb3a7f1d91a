-- `outline::read_from` meets its contract. Assumes nothing.
use Rattle.outline.specs.Segments.{seg_from}
use Rattle.outline.proofs.read_from.Goals as goal

pub returns-then-on_at : goal.returns-then-on_at
unfolding seg_from
returns-then-on_at c =
    rw (← c.next-b.ensures, ← c.on_at.ensures, c.if-on_at.true) c.line_from.ensures

pub returns : goal.returns
unfolding seg_from
returns c =
    rw (← c.next-b.ensures, ← c.on_at.ensures, c.if-on_at.false, ← c.next.ensures) c.quad_from.ensures
