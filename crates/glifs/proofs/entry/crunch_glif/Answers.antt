-- `glifs::entry::crunch_glif` meets its contract. Assumes nothing.
use lib.ListN.{length}
use Rattle.edition.specs.Laws.{cleared_work}
use Rattle.crunch.proofs.Whole.{cleared_points}
use Rattle.glifs.proofs.Reading.{rows_zero}
use Rattle.glifs.proofs.entry.crunch_glif.Goals as goal

pub returns : goal.returns
returns c =
    record {
      answer = c.crunch_bytes-r.ensures.writes.answer;
      out = c.crunch_bytes-r.ensures.writes.left;
      read = rows_zero (length c.crunch_bytes-r.new.ends) (length c.crunch_bytes-r.new.xs) (length c.crunch_bytes-r.new.ys) (length c.crunch_bytes-r.new.flags) (length c.args.marks.now) c.clear_rows.ensures c.crunch_bytes-r.auto.ends c.crunch_bytes-r.auto.xs c.crunch_bytes-r.auto.ys c.crunch_bytes-r.auto.flags c.crunch_bytes-r.ensures.marks_value;
      work = cleared_work c.args.samples.now c.args.breaks.now c.args.answers.now c.args.links.now c.clear_work.ensures c.crunch_bytes-r.auto.samples c.crunch_bytes-r.auto.breaks c.crunch_bytes-r.auto.answers c.crunch_bytes-r.auto.links;
      points = cleared_points c.args.points.now c.clear_points.ensures c.crunch_bytes-r.auto.points;
    }
