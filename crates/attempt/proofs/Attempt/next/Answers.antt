-- `attempt::Attempt::next` meets its contract. Assumes nothing.
use Rattle.attempt.proofs.Against.{ended}
use Rattle.attempt.proofs.Attempt.next.Goals as goal

-- it cannot win
pub returns-in-Over : goal.returns-in-Over
returns-in-Over c =
    rw (c.unchanged.ensures.answer, c.unchanged.ensures.fallen)
    (ended _ _ _ _ _ _ _ (rw (c.in_ok-counted.was, c.in-Over.is) at c.measure_below.ensures) c.requires c.base-base.ensures)
