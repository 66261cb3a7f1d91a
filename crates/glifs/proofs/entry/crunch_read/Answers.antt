-- `glifs::entry::crunch_read` meets its contract. Assumes nothing.
use mathlib.Core.Path.{sym}
use native.Mathlib.Omega.{arith}
use lib.ListN.{length}
use lib.Seq.{length-take-le}
use Rattle.rows.specs.Rows.{work}
use Rattle.edition.specs.Scratch.{rooms_of}
use Rattle.refusals.proofs.Passing.{handed_up}
use Rattle.glyphs.proofs.Writing.{none_anew, all_anew}
use Rattle.glifs.proofs.Renewing.{held, not_held, not_crunched, all_crunched}
use Rattle.glifs.proofs.entry.crunch_read.Goals as goal

pub slice_bounds-belongs-end : goal.slice_bounds-belongs-end
slice_bounds-belongs-end c = c.requires.in_ends

pub slice_bounds-belongs-end-2 : goal.slice_bounds-belongs-end-2
slice_bounds-belongs-end-2 c = sym (length-take-le _ c.args.ends.now c.requires.in_ends)

pub returns-then-not-belongs : goal.returns-then-not-belongs
returns-then-not-belongs c =
    not_held c.args.ends.now c.args.xs.now c.args.ys.now c.args.flags.now c.requires c.belongs.ensures (rooms_of (work c.args.samples.now c.args.breaks.now c.args.answers.now c.args.links.now)) c.args.settings (length c.args.points.now) c.args.bytes.now c.args.out.now c.if-not-belongs.true-raw

pub crunch_rows-requires : goal.crunch_rows-requires
crunch_rows-requires c =
    held c.args.ends.now c.args.xs.now c.args.ys.now c.args.flags.now c.requires c.belongs.ensures c.if-not-belongs.false-raw

pub slice_bounds-write_glif-end : goal.slice_bounds-write_glif-end
slice_bounds-write_glif-end c = omega (arith, c.crunch_rows.auto.ends, c.requires.in_ends)

pub slice_bounds-write_glif-end-2 : goal.slice_bounds-write_glif-end-2
slice_bounds-write_glif-end-2 c = sym (length-take-le _ _ (omega (arith, c.crunch_rows.auto.ends, c.requires.in_ends)))

pub slice_bounds-write_glif-end-3 : goal.slice_bounds-write_glif-end-3
slice_bounds-write_glif-end-3 c = (all_anew c.crunch_rows.ensures c.in_ok-n.was).placed.in_xs

pub slice_bounds-write_glif-end-4 : goal.slice_bounds-write_glif-end-4
slice_bounds-write_glif-end-4 c = sym (length-take-le _ _ (all_anew c.crunch_rows.ensures c.in_ok-n.was).placed.in_xs)

pub slice_bounds-write_glif-end-5 : goal.slice_bounds-write_glif-end-5
slice_bounds-write_glif-end-5 c = (all_anew c.crunch_rows.ensures c.in_ok-n.was).placed.in_ys

pub slice_bounds-write_glif-end-6 : goal.slice_bounds-write_glif-end-6
slice_bounds-write_glif-end-6 c = sym (length-take-le _ _ (all_anew c.crunch_rows.ensures c.in_ok-n.was).placed.in_ys)

pub slice_bounds-write_glif-end-7 : goal.slice_bounds-write_glif-end-7
slice_bounds-write_glif-end-7 c = (all_anew c.crunch_rows.ensures c.in_ok-n.was).placed.in_flags

pub slice_bounds-write_glif-end-8 : goal.slice_bounds-write_glif-end-8
slice_bounds-write_glif-end-8 c = sym (length-take-le _ _ (all_anew c.crunch_rows.ensures c.in_ok-n.was).placed.in_flags)

pub returns-in_err-n : goal.returns-in_err-n
returns-in_err-n c =
    rw (handed_up c.from_residual.result _ c.from_residual.ensures.1)
    (not_crunched c.args.ends.now c.args.xs.now c.args.ys.now c.args.flags.now c.requires c.belongs.ensures (rooms_of (work c.args.samples.now c.args.breaks.now c.args.answers.now c.args.links.now)) c.args.settings (length c.args.points.now) c.args.bytes.now c.args.out.now c.if-not-belongs.false-raw (none_anew c.crunch_rows.ensures c.in_err-n.was))

pub returns : goal.returns
returns c =
    all_crunched c.args.ends.now c.args.xs.now c.args.ys.now c.args.flags.now c.requires c.belongs.ensures (rooms_of (work c.args.samples.now c.args.breaks.now c.args.answers.now c.args.links.now)) c.args.settings (length c.args.points.now) c.args.bytes.now c.args.out.now c.if-not-belongs.false-raw (all_anew c.crunch_rows.ensures c.in_ok-n.was) c.write_glif.ensures
