-- `glyfread::read::read_glyph` meets its contract. Assumes nothing.
use mathlib.Core.Path.{subst}
use Rattle.refusals.proofs.Passing.{handed_up}
use Rattle.glyf.specs.Layout.{glyph}
use Rattle.glyfread.specs.Reads.{Judges}
use Rattle.glyfread.proofs.Leaving.{leaves_all, leaves_short, leaves_filled, rooms_are}
use Rattle.glyfread.proofs.read.read_glyph.Goals as goal

pub returns-then-lacks_room : goal.returns-then-lacks_room
returns-then-lacks_room c = let j = subst (Judges _) c.in_ok-p.was c.judge.ensures in
    let n = leaves_short c.args.bytes.now (glyph c.args.ends.now c.args.xs.now c.args.ys.now c.args.flags.now c.args.instructions.now) _ j c.lacks_room.ensures c.if-lacks_room.true in
    record { answer = n.answer; left = n.left }

pub copy_words-requires : goal.copy_words-requires
copy_words-requires c = let j = subst (Judges _) c.in_ok-p.was c.judge.ensures in
    (j.ends_inside, (rooms_are c.args.bytes.now (glyph c.args.ends.now c.args.xs.now c.args.ys.now c.args.flags.now c.args.instructions.now) _ j c.lacks_room.ensures c.if-lacks_room.false).0)

pub copy_bytes-requires : goal.copy_bytes-requires
copy_bytes-requires c = let j = subst (Judges _) c.in_ok-p.was c.judge.ensures in
    (j.code_inside, (rooms_are c.args.bytes.now (glyph c.args.ends.now c.args.xs.now c.args.ys.now c.args.flags.now c.args.instructions.now) _ j c.lacks_room.ensures c.if-lacks_room.false).1)

pub fill_points-requires : goal.fill_points-requires
fill_points-requires c = let j = subst (Judges _) c.in_ok-p.was c.judge.ensures in
    record { roomy = (rooms_are c.args.bytes.now (glyph c.args.ends.now c.args.xs.now c.args.ys.now c.args.flags.now c.args.instructions.now) _ j c.lacks_room.ensures c.if-lacks_room.false).2; from_value = rw c.start.ensures j.fine }

pub returns-in_err-p : goal.returns-in_err-p
returns-in_err-p c = let n = leaves_all c.args.bytes.now (glyph c.args.ends.now c.args.xs.now c.args.ys.now c.args.flags.now c.args.instructions.now) _ (subst (Judges _) c.in_err-p.was c.judge.ensures) in
    record { answer = rw (handed_up c.from_residual.result _ c.from_residual.ensures.1) n.answer; left = n.left }

pub returns : goal.returns
returns c = let j = subst (Judges _) c.in_ok-p.was c.judge.ensures in
    let n =
    leaves_filled c.args.bytes.now (glyph c.args.ends.now c.args.xs.now c.args.ys.now c.args.flags.now c.args.instructions.now) _ j c.lacks_room.ensures c.if-lacks_room.false c.start.ensures
    c.copy_words.ensures c.copy_bytes.ensures c.fill_points.ensures.xs_after c.fill_points.ensures.ys_after c.fill_points.ensures.flags_after
    in
    record { answer = n.answer; left = n.left }
