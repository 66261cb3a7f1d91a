use Rattle.std.proofs.Common.{◌≡◌, pos, arith, rules, to_z, of_z, w16, get_or}
use native.Mathlib.Numerals.{unary_clauses}
use Rattle.lines.proofs.Texts.{begin}
use Rattle.lines.proofs.Answers.{as_point, next_point, all_points}
use Rattle.lines.proofs.answer.put_points.Goals as goal

pub loop-i-init : goal.loop-i-init
loop-i-init c = simp unary_clauses (begin _ _ _ _ (omega (arith, c.requires.0)))

pub loop-i-preserved : goal.loop-i-preserved
loop-i-preserved c =
    let x : to_z w16 (of_z w16 (get_or c.args.xs.now c.loop-i.i (pos 0))) ≡ get_or c.args.xs.now c.loop-i.i (pos 0) = search rules in
    let y : to_z w16 (of_z w16 (get_or c.args.ys.now c.loop-i.i (pos 0))) ≡ get_or c.args.ys.now c.loop-i.i (pos 0) = search rules in
    next_point _ _ _ _ _ c.loop-i.invariant c.loop-i-test.true (as_point _ x y c.put_point-a.ensures)

pub returns : goal.returns
returns c = all_points _ _ _ _ _ c.loop-i.invariant c.loop-i-test.false
