-- `glyfwrite::write::write_glyph` meets its contract. Assumes nothing.
use mathlib.Core.Path.{sym, subst}
use lib.ListN.{length}
use lib.Seq.{length-take-le}
use Rattle.refusals.proofs.Passing.{handed_up}
use Rattle.glyfwrite.specs.Writes.{Judges}
use Rattle.glyfwrite.proofs.Writing.{counted, fits_as, answers, leaves, unwritten}
use Rattle.glyfwrite.proofs.write.write_glyph.Goals as goal

pub slice_bounds-put_fitting-end : goal.slice_bounds-put_fitting-end
slice_bounds-put_fitting-end c = let f = subst (Judges _) c.in_ok-n.was c.judge.ensures in sym (length-take-le _ _ f.in_xs)

pub slice_bounds-put_fitting-end-2 : goal.slice_bounds-put_fitting-end-2
slice_bounds-put_fitting-end-2 c = let f = subst (Judges _) c.in_ok-n.was c.judge.ensures in sym (length-take-le _ _ f.in_ys)

pub slice_bounds-put_fitting-end-3 : goal.slice_bounds-put_fitting-end-3
slice_bounds-put_fitting-end-3 c = let f = subst (Judges _) c.in_ok-n.was c.judge.ensures in sym (length-take-le _ _ f.in_flags)

pub put_fitting-requires : goal.put_fitting-requires
put_fitting-requires c = counted (subst (Judges _) c.in_ok-n.was c.judge.ensures)

pub returns-in_err-n : goal.returns-in_err-n
returns-in_err-n c = let e = sym (subst (Judges _) c.in_err-n.was c.judge.ensures (length c.args.out.now)) in
    let kept = unwritten c.args.out.now _ in
    record { answer = rw (handed_up c.from_residual.result _ c.from_residual.ensures.1) (answers kept e); left = leaves kept e }

pub returns : goal.returns
returns c = let e = fits_as (subst (Judges _) c.in_ok-n.was c.judge.ensures) (length c.args.out.now) in
    record { answer = answers c.put_fitting.ensures e; left = leaves c.put_fitting.ensures e }
