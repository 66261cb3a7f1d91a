-- `crunch::crunch` meets its contract. Assumes nothing.
use native.Mathlib.Omega.{arith}
use mathlib.Core.Path.{sym, ◌∙◌}
use lib.ListN.{drop}
use lib.Seq.{length-take-le}
use Rattle.crunch.proofs.End.{gives_fit, gives_answer, gives_outs}
use Rattle.crunch.proofs.Whole.{room_in, room_is, room_few, length_kept, at_room}
use Rattle.crunch.proofs.crunch.Goals as goal

pub least-requires : goal.least-requires
least-requires c = tt

pub least-requires-2 : goal.least-requires-2
least-requires-2 c = tt

pub least-room-requires : goal.least-room-requires
least-room-requires c = tt

pub slice_bounds-crunch_into-end : goal.slice_bounds-crunch_into-end
slice_bounds-crunch_into-end c = room_in _ _ _ c.args.points.now c.least.ensures c.least-2.ensures c.least-room.ensures

pub slice_bounds-crunch_into-end-2 : goal.slice_bounds-crunch_into-end-2
slice_bounds-crunch_into-end-2 c =
    sym (length-take-le _ c.args.points.now (room_in _ _ _ c.args.points.now c.least.ensures c.least-2.ensures c.least-room.ensures))

pub crunch_into-c-requires : goal.crunch_into-c-requires
crunch_into-c-requires c = tt

pub put_out-requires : goal.put_out-requires
put_out-requires c =
    let (x, y, f) = room_few _ _ _ c.args.points.now c.least.ensures c.least-2.ensures c.least-room.ensures in
    gives_fit (drop c.least-room.result c.args.points.now) _ _ _ c.crunch_into-c.ensures (omega (arith, c.crunch_into-c.auto.points)) (omega (arith, c.crunch_into-c.auto.points)) (omega (arith, c.crunch_into-c.auto.points))

pub shape_of-ox : goal.shape_of-ox
shape_of-ox c = c.put_out.auto.ox

pub shape_of-oy : goal.shape_of-oy
shape_of-oy c = c.put_out.auto.oy

pub shape_of-of : goal.shape_of-of
shape_of-of c = c.put_out.auto.of

pub shape_of-samples : goal.shape_of-samples
shape_of-samples c = c.crunch_into-c.auto.samples

pub shape_of-breaks : goal.shape_of-breaks
shape_of-breaks c = c.crunch_into-c.auto.breaks

pub shape_of-answers : goal.shape_of-answers
shape_of-answers c = c.crunch_into-c.auto.answers

pub shape_of-links : goal.shape_of-links
shape_of-links c = c.crunch_into-c.auto.links

pub shape_of-points : goal.shape_of-points
shape_of-points c =
    length_kept c.args.points.now c.crunch_into-c.new.points c.least-room.result c.crunch_into-c.auto.points

pub returns : goal.returns
returns c =
    let rest = drop c.least-room.result c.args.points.now in
    let gives = at_room _ _ _ _ _ (room_is _ _ _ c.args.points.now c.least.ensures c.least-2.ensures c.least-room.ensures) c.crunch_into-c.ensures in
    record { answer = gives_answer rest gives; outs = c.put_out.ensures ∙ gives_outs rest _ gives }
