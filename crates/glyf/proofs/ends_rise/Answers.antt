use native.Mathlib.Omega.{arith}
use mathlib.Core.Path.{sym, ◌∙◌}
use Rattle.glyf.proofs.Rises.{rise_end, rise_stops, rise_goes}
use Rattle.glyf.proofs.ends_rise.Goals as goal

pub returns-then-ends-i : goal.returns-then-ends-i
returns-then-ends-i c = let inv = c.loop-i.invariant in
    sym (inv.1 ∙ rise_stops _ _ inv.0 c.loop-i-test.true c.if-ends-i.true)

pub loop-i-preserved : goal.loop-i-preserved
loop-i-preserved c = let inv = c.loop-i.invariant in
    (omega arith, inv.1 ∙ rise_goes _ _ inv.0 c.loop-i-test.true c.if-ends-i.false)

pub returns : goal.returns
returns c = let inv = c.loop-i.invariant in rise_end _ _ c.loop-i-test.false ∙ sym inv.1
