-- `glyfwrite::difference::between` meets its contract. Assumes nothing.
use Rattle.glyfwrite.proofs.Taking.{less_is}
use Rattle.glyfwrite.proofs.difference.between.Goals as goal

pub returns : goal.returns
returns c = less_is c.ranges.from c.ranges.to c.abs_diff.ensures
