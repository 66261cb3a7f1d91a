-- `glyphs::renew::crunch_rows` meets its contract. Assumes nothing.
use mathlib.Core.Path.{sym}
use lib.ListN.{length, drop}
use lib.Seq.{length-take-le}
use native.Mathlib.Omega.{arith}
use Rattle.crunch.proofs.Whole.{room_in, room_is, room_few}
use Rattle.glyphs.proofs.Writing.{first_is, apart, gathered_in, gathered_fits, at_room}
use Rattle.glyphs.proofs.renew.crunch_rows.Goals as goal

pub slice_bounds-crunch_contours-end : goal.slice_bounds-crunch_contours-end
slice_bounds-crunch_contours-end c = c.requires.in_ends

pub slice_bounds-crunch_contours-end-2 : goal.slice_bounds-crunch_contours-end-2
slice_bounds-crunch_contours-end-2 c = sym (length-take-le _ c.args.ends.now c.requires.in_ends)

pub slice_bounds-crunch_contours-end-3 : goal.slice_bounds-crunch_contours-end-3
slice_bounds-crunch_contours-end-3 c = c.requires.in_xs

pub slice_bounds-crunch_contours-end-4 : goal.slice_bounds-crunch_contours-end-4
slice_bounds-crunch_contours-end-4 c = sym (length-take-le _ c.args.xs.now c.requires.in_xs)

pub slice_bounds-crunch_contours-end-5 : goal.slice_bounds-crunch_contours-end-5
slice_bounds-crunch_contours-end-5 c = c.requires.in_ys

pub slice_bounds-crunch_contours-end-6 : goal.slice_bounds-crunch_contours-end-6
slice_bounds-crunch_contours-end-6 c = sym (length-take-le _ c.args.ys.now c.requires.in_ys)

pub slice_bounds-crunch_contours-end-7 : goal.slice_bounds-crunch_contours-end-7
slice_bounds-crunch_contours-end-7 c = c.requires.in_flags

pub slice_bounds-crunch_contours-end-8 : goal.slice_bounds-crunch_contours-end-8
slice_bounds-crunch_contours-end-8 c = sym (length-take-le _ c.args.flags.now c.requires.in_flags)

pub slice_bounds-crunch_contours-end-9 : goal.slice_bounds-crunch_contours-end-9
slice_bounds-crunch_contours-end-9 c = room_in _ _ _ c.args.points.now c.least.ensures c.least-2.ensures c.least-room.ensures

pub slice_bounds-crunch_contours-end-10 : goal.slice_bounds-crunch_contours-end-10
slice_bounds-crunch_contours-end-10 c = sym (length-take-le _ c.args.points.now (room_in _ _ _ c.args.points.now c.least.ensures c.least-2.ensures c.least-room.ensures))

pub crunch_contours-g-requires : goal.crunch_contours-g-requires
crunch_contours-g-requires c = apart c.args.ends.now c.args.xs.now c.args.ys.now c.args.flags.now c.requires

pub copy_gathered-requires : goal.copy_gathered-requires
copy_gathered-requires c =
    let (x, y, f) = room_few _ _ _ c.args.points.now c.least.ensures c.least-2.ensures c.least-room.ensures in
    gathered_fits (drop c.least-room.result c.args.points.now) (length c.args.xs.now) (length c.args.ys.now) (length c.args.flags.now) c.crunch_contours-g.ensures
    (omega (arith, c.crunch_contours-g.auto.points), omega (arith, c.crunch_contours-g.auto.points), omega (arith, c.crunch_contours-g.auto.points))

pub returns : goal.returns
returns c =
    let room = room_is _ _ _ c.args.points.now c.least.ensures c.least-2.ensures c.least-room.ensures in
    let rest = drop c.least-room.result c.args.points.now in
    let ends = first_is c.args.ends.now c.crunch_contours-g.new.ends c.args.contours c.requires.in_ends c.crunch_contours-g.auto.ends in
    c.copy_gathered.ensures _ _ (gathered_in rest ends (at_room _ _ _ room c.crunch_contours-g.ensures))
