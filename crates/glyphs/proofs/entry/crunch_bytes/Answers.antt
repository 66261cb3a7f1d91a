-- `glyphs::entry::crunch_bytes` meets its contract. Assumes nothing.
use Rattle.refusals.proofs.Passing.{handed_up}
use Rattle.glyphs.proofs.Reading.{unread, was_read, none_read, same_rooms, all_read}
use Rattle.glyphs.proofs.entry.crunch_bytes.Goals as goal

pub crunch_read-requires : goal.crunch_read-requires
crunch_read-requires c = (was_read c.read_glyph.ensures c.in_ok-read.was).stood

pub returns-in_err-read : goal.returns-in_err-read
returns-in_err-read c = rw (handed_up c.from_residual.result _ c.from_residual.ensures.1) (none_read _ c.args.settings c.args.bytes.now c.args.out.now (unread c.read_glyph.ensures c.in_err-read.was))

pub returns : goal.returns
returns c =
    let w = was_read c.read_glyph.ensures c.in_ok-read.was in
    let lengths = same_rooms c.read_glyph.auto.ends c.read_glyph.auto.xs c.read_glyph.auto.ys c.read_glyph.auto.flags c.read_glyph.auto.instructions in
    all_read _ c.args.settings c.args.bytes.now c.args.out.now w.is w.first lengths c.crunch_read.ensures
