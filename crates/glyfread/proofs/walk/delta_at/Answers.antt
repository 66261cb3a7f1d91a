-- `glyfread::walk::delta_at` meets its contract. Assumes nothing.
use Rattle.glyfread.proofs.walk.delta_at.Goals as goal

pub returns-then-short : goal.returns-then-short
returns-then-short c = rw c.if-short.true c.short_at.ensures

pub returns : goal.returns
returns c = rw c.if-short.false c.long_at.ensures
