use Rattle.float.proofs.Squares.{start, root_lt, more, ended}
use Rattle.float.proofs.by_digits.Goals as goal

pub loop-i-init : goal.loop-i-init
loop-i-init c = start _ _ c.ranges.w.fits c.requires

pub turn-s-requires : goal.turn-s-requires
turn-s-requires c = (root_lt c.loop-i.invariant, c.loop-i.invariant.within)

pub loop-i-preserved : goal.loop-i-preserved
loop-i-preserved c = more c.loop-i.invariant c.loop-i-test.true c.turn-s.ensures

pub returns : goal.returns
returns c = ended c.loop-i.invariant c.loop-i-test.false
