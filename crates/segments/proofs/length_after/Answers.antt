use Rattle.segments.proofs.Going.{steps, stepped}
use Rattle.segments.proofs.length_after.Goals as goal

pub loop-preserved : goal.loop-preserved
loop-preserved c = steps c.loop.invariant c.loop-test.true c.rk4-at.ensures

pub returns : goal.returns
returns c = stepped c.loop.invariant c.args.q c.loop-test.false c.new-f.ensures
