-- `glyphs::renew::copy_points` meets its contract. Assumes nothing.
use native.Mathlib.Omega.{arith}
use Rattle.glyphs.proofs.Writing.{not_fine, too_many, all_copied, all_placed}
use Rattle.glyphs.proofs.renew.copy_points.Goals as goal

pub returns-then-not-is_fine : goal.returns-then-not-is_fine
returns-then-not-is_fine c = not_fine c.args.settings c.args.points.now c.args.n c.args.xs.now c.args.ys.now c.args.flags.now c.is_fine.ensures c.if-not-is_fine.true-raw

pub returns-then-n-gt65536 : goal.returns-then-n-gt65536
returns-then-n-gt65536 c = too_many c.args.settings c.args.points.now c.args.n c.args.xs.now c.args.ys.now c.args.flags.now c.is_fine.ensures c.if-not-is_fine.false-raw c.if-n-gt65536.true

pub copy_out-requires : goal.copy_out-requires
copy_out-requires c = c.requires

pub returns : goal.returns
returns c =
    all_copied c.args.settings c.args.points.now c.args.n _ _ _ c.is_fine.ensures c.if-not-is_fine.false-raw c.if-n-gt65536.false
    (all_placed c.args.points.now c.args.n c.requires.0 c.args.xs.now c.args.ys.now c.args.flags.now c.copy_out.ensures (omega (arith, c.copy_out.auto.ox, c.requires.1)) (omega (arith, c.copy_out.auto.oy, c.requires.2)) (omega (arith, c.copy_out.auto.of, c.requires.3)))
