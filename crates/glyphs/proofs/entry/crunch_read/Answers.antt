-- `glyphs::entry::crunch_read` meets its contract. Assumes nothing.
use mathlib.Core.Path.{sym}
use native.Mathlib.Omega.{arith}
use lib.ListN.{take}
use lib.Seq.{length-take-le}
use Rattle.refusals.proofs.Passing.{handed_up}
use Rattle.glyphs.proofs.Writing.{held_of, none_anew, all_anew, none_written, all_written}
use Rattle.glyphs.proofs.entry.crunch_read.Goals as goal

pub crunch_rows-requires : goal.crunch_rows-requires
crunch_rows-requires c = held_of c.requires

pub slice_bounds-write_glyph-end-2 : goal.slice_bounds-write_glyph-end-2
slice_bounds-write_glyph-end-2 c = sym (length-take-le _ _ (omega (arith, c.crunch_rows.auto.ends, c.requires.in_ends)))

pub slice_bounds-write_glyph-end-3 : goal.slice_bounds-write_glyph-end-3
slice_bounds-write_glyph-end-3 c = (all_anew c.crunch_rows.ensures c.in_ok-n.was).placed.in_xs

pub slice_bounds-write_glyph-end-4 : goal.slice_bounds-write_glyph-end-4
slice_bounds-write_glyph-end-4 c = sym (length-take-le _ _ (all_anew c.crunch_rows.ensures c.in_ok-n.was).placed.in_xs)

pub slice_bounds-write_glyph-end-5 : goal.slice_bounds-write_glyph-end-5
slice_bounds-write_glyph-end-5 c = (all_anew c.crunch_rows.ensures c.in_ok-n.was).placed.in_ys

pub slice_bounds-write_glyph-end-6 : goal.slice_bounds-write_glyph-end-6
slice_bounds-write_glyph-end-6 c = sym (length-take-le _ _ (all_anew c.crunch_rows.ensures c.in_ok-n.was).placed.in_ys)

pub slice_bounds-write_glyph-end-7 : goal.slice_bounds-write_glyph-end-7
slice_bounds-write_glyph-end-7 c = (all_anew c.crunch_rows.ensures c.in_ok-n.was).placed.in_flags

pub slice_bounds-write_glyph-end-8 : goal.slice_bounds-write_glyph-end-8
slice_bounds-write_glyph-end-8 c = sym (length-take-le _ _ (all_anew c.crunch_rows.ensures c.in_ok-n.was).placed.in_flags)

pub slice_bounds-write_glyph-end-9 : goal.slice_bounds-write_glyph-end-9
slice_bounds-write_glyph-end-9 c = c.requires.in_instructions

pub slice_bounds-write_glyph-end-10 : goal.slice_bounds-write_glyph-end-10
slice_bounds-write_glyph-end-10 c = sym (length-take-le _ c.args.instructions.now c.requires.in_instructions)

pub returns-in_err-n : goal.returns-in_err-n
returns-in_err-n c = rw (handed_up c.from_residual.result _ c.from_residual.ensures.1) (none_written c.args.settings (take c.args.size c.args.instructions.now) c.args.out.now _ _ _ (none_anew c.crunch_rows.ensures c.in_err-n.was))

pub returns : goal.returns
returns c =
    all_written c.args.settings (take c.args.size c.args.instructions.now) c.args.out.now _ _ _ (all_anew c.crunch_rows.ensures c.in_ok-n.was) (record { answer = c.write_glyph.ensures.answer; left = c.write_glyph.ensures.left })
