-- `glif::tree::enter` meets its contract. Assumes nothing.
use Rattle.glif.specs.Tree.{entered}
use Rattle.glif.proofs.tree.enter.Goals as goal

pub returns : goal.returns
unfolding entered
returns c = rw (
  c.either-5.ensures,
  c.either-4.ensures,
  c.both-3.ensures,
  c.pick.ensures,
  c.more-2.ensures,
  c.more.ensures,
  c.either-wrong.ensures,
  c.either-3.ensures,
  c.either-2.ensures,
  c.both-second.ensures,
  c.both-2.ensures,
  c.both-inner.ensures,
  c.both.ensures,
  c.both-root.ensures,
  c.either.ensures,
  c.on_path-on.ensures,
)
