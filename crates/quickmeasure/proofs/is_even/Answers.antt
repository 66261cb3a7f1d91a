-- `quickmeasure::is_even` meets its contract, by the law `straight_even` for a straight piece. Assumes nothing.
use Rattle.quickmeasure.proofs.Straight.{straight_even}
use Rattle.quickmeasure.proofs.is_even.Goals as goal

pub returns-then-is_straight : goal.returns-then-is_straight
returns-then-is_straight c h =
    straight_even _ (c.is_straight.ensures c.if-is_straight.true)
    (rw (c.square_norm-a.ensures, c.deriv.ensures) at (c.is_even_step.ensures h))
