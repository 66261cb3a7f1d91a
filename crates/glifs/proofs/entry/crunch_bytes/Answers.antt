-- `glifs::entry::crunch_bytes` meets its contract. Assumes nothing.
use native.Mathlib.Omega.{arith}
use mathlib.Core.Path.{◌∙◌}
use lib.ListN.{length}
use Rattle.rows.specs.Rows.{work}
use Rattle.edition.specs.Scratch.{rooms_of}
use Rattle.refusals.proofs.Passing.{handed_up}
use Rattle.glifread.specs.Reads.{rooms}
use Rattle.glifs.proofs.Reading.{in_rows, was_read, unread, marks_zero, none_read, all_read}
use Rattle.glifs.proofs.entry.crunch_bytes.Goals as goal

pub crunch_read-requires : goal.crunch_read-requires
crunch_read-requires c =
    let i = in_rows c.args.bytes.now (length c.args.ends.now) (length c.args.xs.now) (length c.args.ys.now) (length c.args.flags.now) c.args.marks.now c.clear_rows.ensures c.read_glif.ensures c.in_ok-read.was in
    record {
      in_ends = omega (arith, i.in_ends, c.read_glif.auto.ends, c.clear_rows.auto.ends);
      in_xs = omega (arith, i.in_xs, c.read_glif.auto.xs, c.clear_rows.auto.xs);
      in_ys = omega (arith, i.in_ys, c.read_glif.auto.ys, c.clear_rows.auto.ys);
      in_flags = omega (arith, i.in_flags, c.read_glif.auto.flags, c.clear_rows.auto.flags);
    }

pub returns-in_err-read : goal.returns-in_err-read
returns-in_err-read c =
    rw (handed_up c.from_residual.result _ c.from_residual.ensures.1)
    (record {
      writes = none_read (record { out = length c.args.out.now; read = rooms (length c.args.ends.now) (length c.args.xs.now) (length c.args.ys.now) (length c.args.flags.now) (length c.args.marks.now); work = rooms_of (work c.args.samples.now c.args.breaks.now c.args.answers.now c.args.links.now); points = length c.args.points.now }) c.args.settings c.args.bytes.now c.args.out.now
          (unread c.args.bytes.now (length c.args.ends.now) (length c.args.xs.now) (length c.args.ys.now) (length c.args.flags.now) c.args.marks.now c.clear_rows.ensures c.read_glif.ensures c.in_err-read.was);
      marks_value = marks_zero c.args.bytes.now (length c.args.ends.now) (length c.args.xs.now) (length c.args.ys.now) (length c.args.flags.now) c.args.marks.now c.clear_rows.ensures c.read_glif.ensures;
    })

pub returns : goal.returns
returns c =
    record {
      writes = all_read c.args.settings c.args.bytes.now c.args.out.now (rooms_of (work c.args.samples.now c.args.breaks.now c.args.answers.now c.args.links.now)) (length c.args.ends.now) (length c.args.xs.now) (length c.args.ys.now) (length c.args.flags.now) (length c.args.marks.now) (length c.args.points.now)
          (was_read c.args.bytes.now (length c.args.ends.now) (length c.args.xs.now) (length c.args.ys.now) (length c.args.flags.now) c.args.marks.now c.clear_rows.ensures c.read_glif.ensures c.in_ok-read.was)
          (c.read_glif.auto.xs ∙ c.clear_rows.auto.xs) (c.read_glif.auto.ys ∙ c.clear_rows.auto.ys) (c.read_glif.auto.flags ∙ c.clear_rows.auto.flags) c.crunch_read.ensures;
      marks_value = marks_zero c.args.bytes.now (length c.args.ends.now) (length c.args.xs.now) (length c.args.ys.now) (length c.args.flags.now) c.args.marks.now c.clear_rows.ensures c.read_glif.ensures;
    }
