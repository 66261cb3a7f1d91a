-- `glifs::lent::belongs` meets its contract. Assumes nothing.
use Rattle.glifs.specs.Glifs.{belong}
use Rattle.glifs.proofs.lent.belongs.Goals as goal

pub returns-then-ends_rise : goal.returns-then-ends_rise
unfolding belong
returns-then-ends_rise c = rw (← c.ends_rise.ensures, c.if-ends_rise.true, ← c.count_of.ensures.value)

pub returns : goal.returns
unfolding belong
returns c = rw (← c.ends_rise.ensures, c.if-ends_rise.false)
