-- `quickmeasure::walk` meets its contract. Assumes nothing.
use Rattle.quickmeasure.proofs.Stored.{whole}
use Rattle.quickmeasure.proofs.walk.Goals as goal

pub returns-then-look : goal.returns-then-look
returns-then-look c =
    rw c.total.ensures (whole _ _ _ c.requires _ (rw c.if-look.true at c.look.ensures))
