-- `quickbreaks::place` meets its contract. Assumes nothing.
use Prim.Native.Nat.{◌<◌}
use lib.ListN.{length}
use lib.Ieee.{to_unsigned}
use mathlib.Core.Path.{sym, ◌∙◌}
use Rattle.std.proofs.lemmas.Result.{err_from_is_err_and}
use Rattle.breaks.proofs.Laws.{place_past, missing}
use Rattle.quickbreaks.proofs.Laws.{place_found, place_last}
use Rattle.quickbreaks.proofs.place.Goals as goal
use Rattle.quickbreaks.proofs.place.Goals.{Else-samples-to_index}

-- the length is not past the samples
inside : (c : Else-samples-to_index) → to_unsigned 64 c.args.s < length c.args.samples.now
inside c = rw c.to_index.ensures at c.if-samples-to_index.false

pub returns-then-samples-to_index : goal.returns-then-samples-to_index
returns-then-samples-to_index c = sym (place_past _ _ _ (rw c.to_index.ensures at c.if-samples-to_index.true))

pub returns-in_err-spot : goal.returns-in_err-spot
returns-in_err-spot c =
    let none = rw c.in_err-spot.was at c.ok_or.ensures.ok_part in
    let p = err_from_is_err_and c.from_residual.result c.from_residual.ensures.1 in
    rw (p.1, p.2, missing (rw c.in_err-spot.was at c.ok_or.ensures.value) none)
    (sym (place_last _ _ _ (inside (goal.at.returns-in_err-spot c).Else-samples-to_index) (sym c.lookup.ensures ∙ none)))

pub returns : goal.returns
returns c =
    rw (c.square_distance.ensures, c.point-xy.ensures)
    (sym (place_found _ _ _ (inside (goal.at.returns c).Else-samples-to_index) _ (sym c.lookup.ensures ∙ rw c.in_ok-spot.was at c.ok_or.ensures.ok_part)))
