use Rattle.std.proofs.Common.{sym, ◌∙◌}
use Rattle.contour.proofs.Dropping.{drop_start, drop_one, keep_one, dropped}
use Rattle.contour.proofs.drop_implied.Goals as goal

pub loop-i-init : goal.loop-i-init
loop-i-init c = drop_start _ _ _ _ _ c.requires c.first_place-i.ensures

pub loop-i-preserved-then-implied_at : goal.loop-i-preserved-then-implied_at
loop-i-preserved-then-implied_at c =
    drop_one c.loop-i.invariant c.loop-i-test.true (sym c.implied_at.ensures ∙ c.if-implied_at.true) c.remove.auto.points c.remove.ensures

pub loop-i-preserved : goal.loop-i-preserved
loop-i-preserved c =
    keep_one c.loop-i.invariant c.loop-i-test.true (sym c.implied_at.ensures ∙ c.if-implied_at.false)

pub returns : goal.returns
returns c = dropped c.loop-i.invariant c.loop-i-test.false
