-- `glyfwrite::write::judge` meets its contract. Assumes nothing.
use native.Mathlib.Omega.{arith}
use mathlib.Core.Path.{sym}
use lib.Seq.{length-take-le}
use Rattle.glyfwrite.proofs.Writing.{unlike_y, unlike_f, too_few, falling, large, fine}
use Rattle.glyfwrite.proofs.write.judge.Goals as goal

pub returns-then-xs-ys : goal.returns-then-xs-ys
returns-then-xs-ys c = unlike_y _ _ _ _ _ c.if-xs-ys.true

pub returns-then-xs-flags : goal.returns-then-xs-flags
returns-then-xs-flags c = unlike_f _ _ _ _ _ c.if-xs-flags.true

pub returns-then-flags-n : goal.returns-then-flags-n
returns-then-flags-n c = too_few _ _ _ _ _ c.if-xs-ys.false c.if-xs-flags.false c.count_of-n.ensures.value c.if-flags-n.true

pub returns-then-not-ends_rise : goal.returns-then-not-ends_rise
returns-then-not-ends_rise c = falling _ _ _ _ _ c.if-xs-ys.false c.if-xs-flags.false c.count_of-n.ensures.value c.if-flags-n.false c.ends_rise.ensures c.if-not-ends_rise.true

pub slice_bounds-too_large-end : goal.slice_bounds-too_large-end
slice_bounds-too_large-end c = sym (length-take-le c.count_of-n.result c.args.xs.now (omega arith))

pub slice_bounds-too_large-end-2 : goal.slice_bounds-too_large-end-2
slice_bounds-too_large-end-2 c = sym (length-take-le c.count_of-n.result c.args.ys.now (omega arith))

pub returns-then-too_large : goal.returns-then-too_large
returns-then-too_large c = large _ _ _ _ _ c.if-xs-ys.false c.if-xs-flags.false c.count_of-n.ensures.value
    c.if-flags-n.false c.ends_rise.ensures c.if-not-ends_rise.false c.too_large.ensures c.if-too_large.true

pub returns : goal.returns
returns c = fine _ _ _ _ _ c.if-xs-ys.false c.if-xs-flags.false c.count_of-n.ensures.value
    c.if-flags-n.false c.ends_rise.ensures c.if-not-ends_rise.false c.too_large.ensures c.if-too_large.false c.count_of-n.ensures.upper_bound
