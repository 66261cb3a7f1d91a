-- `glifwrite::put::put_kind` meets its contract. Assumes nothing.
use mathlib.Core.Path.{◌∙◌}
use Rattle.glifwrite.specs.Puts.{put_kind}
use Rattle.glifwrite.proofs.put.put_kind.Goals as goal

pub shape_of-out : goal.shape_of-out
shape_of-out c = c.put_range.auto.out

pub returns : goal.returns
unfolding put_kind
returns c = c.put_range.ensures ∙ rw (
  c.pick-to.ensures,
  c.pick-2.ensures,
  c.pick-from.ensures,
  c.pick.ensures,
)
