-- `why::reasons` meets its contract: `reasons_are` puts together what the calls ensure. Assumes nothing.
use Rattle.why.proofs.Told.{reasons_are}
use Rattle.why.proofs.reasons.Goals as goal

pub returns : goal.returns
returns c =
    reasons_are _ _ _ _ _ c.state_at-first.ensures c.state_at-ended.ensures c.state_at-second.ensures
    c.start_of.ensures
    c.read_from-here.ensures
    c.chord-c.ensures
    c.previous.ensures
    c.arriving_at-d0.ensures
    c.leaving-d1.ensures
    c.turns_x.ensures
    c.turns_x-2.ensures
    c.either.ensures
    c.turns_y.ensures
    c.turns_y-2.ensures
    c.either-2.ensures
    c.is_zero.ensures
    c.is_zero-2.ensures
    c.is_angle.ensures
