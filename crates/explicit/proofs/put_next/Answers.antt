-- `explicit::put_next` meets its contract. Assumes nothing.
use mathlib.Core.List.{[], ◌∷◌}
use mathlib.Core.Path.{sym, ◌∙◌}
use lib.ListN.{length}
use Rattle.contour.specs.Writing.{writing_in}
use Rattle.contour.specs.Laws.{wrote_more}
use Rattle.explicit.proofs.put_next.Goals as goal

pub returns-then-both_off : goal.returns-then-both_off
returns-then-both_off c =
    let both = sym c.both_off.ensures ∙ c.if-both_off.true in
    rw (both, ← c.implied.ensures)
    (wrote_more (length c.args.points.now) (c.implied.result ∷ []) (c.args.p ∷ []) c.push-v.auto.points c.push.ensures (writing_in c.args.points.now c.args.w) c.push-v.ensures)

pub returns : goal.returns
returns c =
    let neither = sym c.both_off.ensures ∙ c.if-both_off.false in
    rw neither c.push-2.ensures
