-- `contour::push_piece` meets its contract. Assumes nothing.
use Rattle.std.proofs.Common.{[], ◌∷◌, length}
use Rattle.contour.specs.Writing.{writing_in}
use Rattle.contour.specs.Laws.{wrote_more}
use Rattle.contour.proofs.push_piece.Goals as goal

pub returns : goal.returns
returns c =
    rw (← c.is_line.ensures, c.if-is_line.false, ← c.off_curve.ensures, ← c.on_curve-2.ensures)
    (wrote_more (length c.args.points.now) (c.off_curve.result ∷ []) (c.on_curve-2.result ∷ []) c.push-v.auto.points c.push-2.ensures (writing_in c.args.points.now c.args.w) c.push-v.ensures)
