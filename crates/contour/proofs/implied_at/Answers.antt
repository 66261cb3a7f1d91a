-- `contour::implied_at` meets its contract. Assumes nothing.
-- the place before is one of the n
use Rattle.std.proofs.Common.{◌<◌, ◌∙◌}
use Rattle.contour.specs.Implied.{is_implied}
use Rattle.contour.proofs.Dropping.{previous_below, implied_in}
use Rattle.contour.proofs.implied_at.Goals as goal
use Rattle.contour.proofs.implied_at.Goals.{After-before-prev}

below : (c : After-before-prev) → c.before-prev.result < c.args.n
below c = rw c.before-prev.ensures (previous_below _ _ c.requires.0)

pub returns : goal.returns
returns c =
    c.is_implied.ensures ∙ rw c.before-prev.ensures (implied_in (is_implied c.args.closed) _ _ _ c.requires.0 c.requires.1)
