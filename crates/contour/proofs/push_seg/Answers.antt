-- `contour::push_seg` meets its contract. Assumes nothing.
use Rattle.std.proofs.Common.{[], ◌∷◌, length}
use Rattle.contour.specs.Writing.{writing_in}
use Rattle.contour.specs.Laws.{wrote_more}
use Rattle.contour.proofs.push_seg.Goals as goal

pub returns-in-Quad : goal.returns-in-Quad
returns-in-Quad c =
    rw (c.in-Quad.is, ← c.off_curve.ensures, ← c.on_curve-in-Quad.ensures)
    (wrote_more (length c.args.points.now) (c.off_curve.result ∷ []) (c.on_curve-in-Quad.result ∷ []) c.push-v.auto.points c.push-in-Quad.ensures (writing_in c.args.points.now c.args.w) c.push-v.ensures)
