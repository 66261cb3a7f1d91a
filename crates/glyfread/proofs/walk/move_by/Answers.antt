-- `glyfread::walk::move_by` meets its contract. Assumes nothing.
use mathlib.Core.Path.{◌∙◌}
use Rattle.glyfread.proofs.Signs.{moved_is}
use Rattle.glyfread.proofs.walk.move_by.Goals as goal

pub returns : goal.returns
returns c = c.ok.ensures.value ∙ moved_is c.ranges.z c.ranges.d c.try_from.result c.try_from.ensures
