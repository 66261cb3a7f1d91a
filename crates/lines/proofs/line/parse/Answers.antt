use Rattle.std.proofs.Common.{◌≡◌, rules, to_z, of_z, w16}
use Rattle.lines.specs.Line.{laid}
use Rattle.lines.proofs.Parsing.{begin, more, ended, spoils, too_long, no_points_lem}
use Rattle.lines.proofs.line.parse.Goals as goal

pub returns-then-line-gt65536 : goal.returns-then-line-gt65536
unfolding laid
returns-then-line-gt65536 c = rw (too_long _ _ _ _ c.if-line-gt65536.true)

pub returns-then-line-eq0 : goal.returns-then-line-eq0
returns-then-line-eq0 c = no_points_lem _ _ _ _ c.if-line-eq0.true

pub loop-at-init : goal.loop-at-init
loop-at-init c = begin _ _ _ _ c.if-line-eq0.false c.if-line-gt65536.false

pub returns-in_err-p : goal.returns-in_err-p
returns-in_err-p c = rw c.from_residual.ensures (spoils c.loop-at.invariant c.in_err-p.ensures.at_value)

pub loop-at-preserved : goal.loop-at-preserved
loop-at-preserved c =
    let x : to_z w16 (of_z w16 c.in_ok-p.p.x) ≡ c.in_ok-p.p.x = search rules in
    let y : to_z w16 (of_z w16 c.in_ok-p.p.y) ≡ c.in_ok-p.p.y = search rules in
    more c.loop-at.invariant _ c.in_ok-p.ensures.inside c.in_ok-p.ensures.at_value x y c.lay.ensures c.lay-in-loop-at.ensures c.lay-in-loop-at-2.ensures

pub returns : goal.returns
returns c = ended c.loop-at.invariant c.loop-at-test.false
