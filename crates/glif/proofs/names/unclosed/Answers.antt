-- `glif::names::unclosed` meets its contract. Assumes nothing.
use Rattle.gliftext.specs.Pick.{pick}
use Rattle.glif.specs.Names.{unclosed}
use Rattle.glif.proofs.names.unclosed.Goals as goal

pub returns-then-eq : goal.returns-then-eq
unfolding unclosed pick
returns-then-eq c = rw (c.same_name.ensures, c.at.ensures, c.less.ensures, ← c.eq.ensures, c.if-eq.true)

pub returns : goal.returns
unfolding unclosed pick
returns c = rw (← c.eq.ensures, c.if-eq.false)
