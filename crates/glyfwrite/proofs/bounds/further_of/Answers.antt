-- `glyfwrite::bounds::further_of` meets its contract. Assumes nothing.
use mathlib.Core.Path.{◌∙◌}
use borrow.Author.Rules.{rules}
use Rattle.glyfwrite.proofs.Taking.{copied}
use Rattle.glyfwrite.proofs.Outer.{greater_is, lesser_is}
use Rattle.glyfwrite.proofs.bounds.further_of.Goals as goal

pub returns-then-high : goal.returns-then-high
returns-then-high c = copied (search rules) ∙ rw (copied c.ranges.z, copied c.ranges.x) at c.max.ensures.value ∙ greater_is _ _ c.if-high.true

pub returns-else-high : goal.returns-else-high
returns-else-high c = copied (search rules) ∙ rw (copied c.ranges.z, copied c.ranges.x) at c.min.ensures.value ∙ lesser_is _ _ c.if-high.false
