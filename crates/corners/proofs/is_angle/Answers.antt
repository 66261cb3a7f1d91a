-- `corners::is_angle` meets its contract. Assumes nothing.
use Rattle.corners.proofs.Bend.{wide_angle, narrow_angle}
use Rattle.corners.proofs.is_angle.Goals as goal

pub returns-then-both-bend : goal.returns-then-both-bend
returns-then-both-bend c =
    wide_angle _ _ c.square_norm.ensures c.square_norm-2.ensures c.if-both.true c.if-both-2.true c.if-both-bend.true

pub returns-then-bend-both : goal.returns-then-bend-both
returns-then-bend-both c =
    narrow_angle _ _ c.square_norm.ensures c.square_norm-2.ensures c.if-both.true c.if-both-2.true c.if-bend-both.true
