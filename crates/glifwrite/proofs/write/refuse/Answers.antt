-- `glifwrite::write::refuse` meets its contract. Assumes nothing.
use Rattle.glifwrite.specs.Contours.{rows_refused}
use Rattle.glifwrite.proofs.write.refuse.Goals as goal

pub returns : goal.returns
unfolding rows_refused
returns c = rw (
  c.or.ensures,
  c.pick-rows.ensures,
  c.pick-two.ensures,
  c.either-empty.ensures,
  c.both.ensures,
  c.some_empty.ensures,
  c.is_even-even.ensures,
)
