-- `outline::end_of` meets its contract. Assumes nothing.
use Rattle.outline.specs.Segments.{end_of}
use Rattle.outline.proofs.end_of.Goals as goal

pub returns-then-on_at : goal.returns-then-on_at
unfolding end_of
returns-then-on_at c = rw (← c.next-b.ensures, ← c.on_at.ensures, c.if-on_at.true)

pub returns-else-on_at : goal.returns-else-on_at
unfolding end_of
returns-else-on_at c =
    rw (← c.next-b.ensures, ← c.on_at.ensures, c.if-on_at.false) c.next.ensures
