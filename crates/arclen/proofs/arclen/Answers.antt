use Rattle.std.proofs.Common.{refl, ◌∙◌}
use Rattle.arclen.specs.Arclen.{arclen_of}
use Rattle.arclen.proofs.Laws.{goes, done}
use Rattle.arclen.proofs.arclen.Goals as goal

pub loop-i-preserved : goal.loop-i-preserved
loop-i-preserved c = c.loop-i.invariant ∙ goes _ _ _ _ 10 _ c.loop-i-test.true c.rk4-y.ensures

pub returns : goal.returns
unfolding arclen_of
returns c = rw (← c.new-f.ensures, c.loop-i.invariant, done _ _ _ _ 10 _ c.loop-i-test.false) refl
