-- `glif::tree::tree_of` meets its contract. Assumes nothing.
use Rattle.glif.specs.Tree.{treed}
use Rattle.glif.proofs.tree.tree_of.Goals as goal

pub returns : goal.returns
unfolding treed
returns c = rw (
  c.either-3.ensures,
  c.either-2.ensures,
  c.both.ensures,
  c.text_fits.ensures,
  c.pick-next.ensures,
  c.eq-6.ensures,
  c.pick-after.ensures,
  c.pick.ensures,
  c.leave-2.ensures,
  c.eq-5.ensures,
  c.leave.ensures,
  c.eq-4.ensures,
  c.enter-inside.ensures,
  c.either-texts.ensures,
  c.either.ensures,
  c.eq-3.ensures,
  c.eq-2.ensures,
  c.eq.ensures,
)
