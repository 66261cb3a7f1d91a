-- `float::root_digits` meets its contract: the nearest root, by how the root and the rest compare. Assumes nothing.
use Rattle.std.proofs.Common.{◌∙◌}
use Rattle.float.proofs.Squares.{near_word}
use Rattle.float.proofs.root_digits.Goals as goal

pub returns : goal.returns
returns c = c.rounded.ensures ∙ near_word _ _ _ c.ranges.w.fits c.by_digits-d.ensures
