use Rattle.why.proofs.Walking.{walk_start, walk_more, walk_all}
use Rattle.why.proofs.state_at.Goals as goal

pub loop-i-init : goal.loop-i-init
loop-i-init c = walk_start _ _ _ _ _

pub loop-i-preserved : goal.loop-i-preserved
loop-i-preserved c =
    walk_more c.loop-i.invariant c.loop-i-test.true c.read_from.ensures
    c.chord-c.ensures
    c.turns.ensures
    c.after_turn-s.ensures
    c.end_of-a.ensures

pub returns : goal.returns
returns c = walk_all c.loop-i.invariant c.loop-i-test.false
