use native.Mathlib.Omega.{arith}
use mathlib.Core.Path.{◌≡◌, refl, sym, ◌∙◌}
use Rattle.glifread.proofs.Entering.{tested, seek_hit, seek_on, seek_end}
use Rattle.glifread.proofs.enter.seek.Goals as goal

pub loop-i-init : goal.loop-i-init
loop-i-init c = (omega arith, refl)

pub returns-then-pick : goal.returns-then-pick
returns-then-pick c = sym (c.loop-i.invariant.1 ∙ seek_hit c.args.first c.args.points.now c.args.to c.loop-i.i (omega arith)
    (tested c.args.first c.args.points.now c.loop-i.i c.at-p.ensures c.is_first.ensures c.is_off.ensures c.pick.ensures) c.if-pick.true)

pub loop-i-preserved : goal.loop-i-preserved
loop-i-preserved c = (omega arith, c.loop-i.invariant.1 ∙ seek_on c.args.first c.args.points.now c.args.to c.loop-i.i (omega arith) (tested c.args.first c.args.points.now c.loop-i.i c.at-p.ensures c.is_first.ensures c.is_off.ensures c.pick.ensures) c.if-pick.false)

pub returns : goal.returns
returns c =
    let end : c.max.result ≡ c.loop-i.i = omega (arith, c.max.ensures) in
    end ∙ sym (c.loop-i.invariant.1 ∙ seek_end c.args.first c.args.points.now c.args.to c.loop-i.i (omega arith))
