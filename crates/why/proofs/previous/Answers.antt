-- `why::previous` meets its contract. Assumes nothing.
use Rattle.std.proofs.Common.{◌∙◌}
use Rattle.why.proofs.Numbers.{previous_some, previous_last}
use Rattle.why.proofs.previous.Goals as goal

pub returns-then-k-gt0 : goal.returns-then-k-gt0
returns-then-k-gt0 c = previous_some _ _ c.if-k-gt0.true

pub returns-else-k-gt0 : goal.returns-else-k-gt0
returns-else-k-gt0 c = c.saturating_sub.ensures ∙ previous_last _ _ c.if-k-gt0.false
