-- `float::turn` meets its contract: the two arms of the trial. Assumes nothing.
use Rattle.std.proofs.Common.{arith}
use Rattle.float.proofs.Squares.{turn_one, turn_none}
use Rattle.float.proofs.turn.Goals as goal

pub returns-then-t-r : goal.returns-then-t-r
returns-then-t-r c =
    turn_one c.args.s _ _ (omega arith) c.requires.1 c.in_hand-r.ensures c.trial-t.ensures c.if-t-r.true

pub returns-else-t-r : goal.returns-else-t-r
returns-else-t-r c =
    turn_none c.args.s _ _ (omega arith) c.requires.1 c.in_hand-r.ensures c.trial-t.ensures c.if-t-r.false
