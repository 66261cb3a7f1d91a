-- `breaks::place` meets its contract. Assumes nothing.
use Prim.Native.Nat.{◌<◌}
use lib.ListN.{length}
use lib.Ieee.{to_unsigned}
use mathlib.Core.Path.{sym, ◌∙◌}
use Rattle.std.proofs.lemmas.Result.{err_from_is_err_and}
use Rattle.breaks.proofs.Laws.{place_past, missing, no_place, no_direction, both_there}
use Rattle.breaks.proofs.place.Goals as goal
use Rattle.breaks.proofs.place.Goals.{Else-samples-to_index}

-- the length is not past the samples
inside : (c : Else-samples-to_index) → to_unsigned 64 c.args.s < length c.args.samples.now
inside c = rw c.to_index.ensures at c.if-samples-to_index.false

pub returns-then-samples-to_index : goal.returns-then-samples-to_index
returns-then-samples-to_index c = sym (place_past _ _ _ (rw c.to_index.ensures at c.if-samples-to_index.true))

pub returns-in_err-o : goal.returns-in_err-o
returns-in_err-o c =
    let none = rw c.in_err-o.was at c.ok_or.ensures.ok_part in
    let p = err_from_is_err_and c.from_residual.result c.from_residual.ensures.1 in
    rw (p.1, p.2, missing (rw c.in_err-o.was at c.ok_or.ensures.value) none)
    (sym (no_place _ _ _ (inside (goal.at.returns-in_err-o c).Else-samples-to_index) (sym c.xy.ensures ∙ none)))

pub returns-in_err-dir : goal.returns-in_err-dir
returns-in_err-dir c =
    let none = rw c.in_err-dir.was at c.ok_or-2.ensures.ok_part in
    let p = err_from_is_err_and c.from_residual-in_err-dir.result c.from_residual-in_err-dir.ensures.1 in
    rw (p.1, p.2, missing (rw c.in_err-dir.was at c.ok_or-2.ensures.value) none)
    (sym (no_direction _ _ _ (inside (goal.at.returns-in_err-dir c).Else-samples-to_index)
    (sym c.xy.ensures ∙ rw c.in_ok-o.was at c.ok_or.ensures.ok_part) (sym c.dir.ensures ∙ none)))

pub returns : goal.returns
returns c =
    rw (c.distance.ensures, c.point-xy.ensures)
    (sym (both_there _ _ _ (inside (goal.at.returns c).Else-samples-to_index)
    (sym c.xy.ensures ∙ rw c.in_ok-o.was at c.ok_or.ensures.ok_part) (sym c.dir.ensures ∙ rw c.in_ok-dir.was at c.ok_or-2.ensures.ok_part)))
