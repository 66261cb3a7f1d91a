use Rattle.lines.proofs.Texts.{begin, next_of, all_of}
use Rattle.lines.proofs.put.put_all.Goals as goal

pub loop-b-init : goal.loop-b-init
loop-b-init c = begin _ _ _ _ c.min-a.ensures

pub loop-b-preserved : goal.loop-b-preserved
loop-b-preserved c = next_of _ _ c.loop-b-test.true c.loop-b.invariant c.put_byte-a.ensures

pub returns : goal.returns
returns c = all_of _ _ c.loop-b-test.false c.loop-b.invariant
