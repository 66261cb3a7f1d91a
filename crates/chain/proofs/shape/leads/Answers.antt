use Rattle.chain.proofs.Along.{arrives, strayed, fell, passed}
use Rattle.chain.proofs.shape.leads.Goals as goal
use Rattle.chain.proofs.shape.leads.Goals.{then-a-at-via-then-a-at, then-a-at-via-else-a-at+then-b-a, then-a-at-via-else-a-at+else-b-a+then-n-b}

pub returns-then-a-at : goal.returns-then-a-at
returns-then-a-at c = elim c.then-a-at.branch [
  | then-a-at-via-then-a-at w ↦ strayed _ _ _ _ _ c.loop-i.invariant.1 c.loop-i-test.true w.if-a-at.true
  | then-a-at-via-else-a-at+then-b-a w ↦ fell _ _ _ _ _ c.loop-i.invariant.1 c.loop-i-test.true w.if-a-at.false w.if-b-a.true
  | then-a-at-via-else-a-at+else-b-a+then-n-b w ↦
      passed _ _ _ _ _ c.loop-i.invariant.1 c.loop-i-test.true w.if-a-at.false w.if-b-a.false w.if-n-b.true
]

pub returns : goal.returns
returns c = arrives _ _ _ _ _ c.loop-i.invariant.1 c.loop-i-test.false
