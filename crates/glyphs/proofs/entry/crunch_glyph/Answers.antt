-- `glyphs::entry::crunch_glyph` meets its contract. Assumes nothing.
use Rattle.edition.specs.Laws.{cleared_work}
use Rattle.crunch.proofs.Whole.{cleared_points}
use Rattle.glyphs.proofs.Reading.{same_rooms, cleared_glyph}
use Rattle.glyphs.proofs.entry.crunch_glyph.Goals as goal

pub returns : goal.returns
returns c =
    let lengths = same_rooms c.crunch_bytes-r.auto.ends c.crunch_bytes-r.auto.xs c.crunch_bytes-r.auto.ys c.crunch_bytes-r.auto.flags c.crunch_bytes-r.auto.instructions in
    record {
      answer = c.crunch_bytes-r.ensures.answer;
      out = c.crunch_bytes-r.ensures.left;
      read = cleared_glyph c.clear_glyph.ensures lengths;
      work = cleared_work c.args.samples.now c.args.breaks.now c.args.answers.now c.args.links.now c.clear_work.ensures c.crunch_bytes-r.auto.samples c.crunch_bytes-r.auto.breaks c.crunch_bytes-r.auto.answers c.crunch_bytes-r.auto.links;
      points = cleared_points c.args.points.now c.clear_points.ensures c.crunch_bytes-r.auto.points;
    }
