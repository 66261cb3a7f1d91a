use Rattle.corners.proofs.Rounds.{signs_start, signs_more}
use Rattle.corners.proofs.sign_round.Goals as goal

pub loop-k-init : goal.loop-k-init
loop-k-init c = signs_start _ _ _ _ _ _

pub loop-k-preserved : goal.loop-k-preserved
loop-k-preserved c =
    signs_more c.loop-k.invariant c.loop-k-test.true c.read_from.ensures c.chord-c.ensures
    c.turns-turned.ensures
    c.mark_if.ensures
    c.after_turn-s.ensures
    c.end_of-a.ensures
