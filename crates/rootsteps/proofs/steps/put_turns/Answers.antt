use Rattle.std.proofs.Common.{arith}
use Rattle.float.proofs.Squares.{start, root_lt, more, ended}
use Rattle.rootsteps.proofs.steps.put_turns.Goals as goal

pub loop-i-init : goal.loop-i-init
loop-i-init c = start _ 53 c.ranges.word.fits (omega arith)

pub turn-next-requires : goal.turn-next-requires
turn-next-requires c = (root_lt c.loop-i.invariant, c.loop-i.invariant.within)

pub put_turn-a-requires : goal.put_turn-a-requires
put_turn-a-requires c = (root_lt c.loop-i.invariant, c.loop-i.invariant.within)

pub loop-i-preserved : goal.loop-i-preserved
loop-i-preserved c = more c.loop-i.invariant c.loop-i-test.true c.turn-next.ensures

pub returns : goal.returns
returns c = ended c.loop-i.invariant c.loop-i-test.false
