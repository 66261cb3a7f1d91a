-- `glifwrite::write::is_even` meets its contract. Assumes nothing.
use Rattle.glifwrite.specs.Contours.{even}
use Rattle.glifwrite.proofs.write.is_even.Goals as goal

pub returns : goal.returns
unfolding even
returns c = rw (
  c.both-3.ensures,
  c.both-2.ensures,
  c.either.ensures,
  c.both.ensures,
  c.end_at-last.ensures,
  c.less.ensures,
)
