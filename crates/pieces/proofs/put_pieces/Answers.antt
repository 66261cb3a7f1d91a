use Rattle.std.proofs.Common.{◌-◌, ◌<◌, arith, length, get_or}
use Rattle.pieces.specs.Slots.{Legible}
use Rattle.pieces.proofs.Going.{from_on, put_start, put_room, put_more, put_done}
use Rattle.pieces.proofs.put_pieces.Goals as goal

pub loop-i-init : goal.loop-i-init
loop-i-init c = put_start _ _ _ _ _ _ _

pub piece_of-p-requires : goal.piece_of-p-requires
piece_of-p-requires c =
    let legible : Legible 2048 c.args.answers.now c.args.links.now (get_or c.args.slots.now c.loop-i.i 0) = from_on c.args.slots.now c.args.first c.loop-i.i c.requires.each c.loop-i.invariant.from c.loop-i-test.true in
    ((legible).in_answers, (legible).in_links)

pub overflow_cast-starts : goal.overflow_cast-starts
overflow_cast-starts c =
    let legible : Legible 2048 c.args.answers.now c.args.links.now (get_or c.args.slots.now c.loop-i.i 0) = from_on c.args.slots.now c.args.first c.loop-i.i c.requires.each c.loop-i.invariant.from c.loop-i-test.true in
    let small : (c.piece_of-p.result.from < 2048) × (c.piece_of-p.result.to < 2048) = rw c.piece_of-p.ensures ((legible).from, (legible).to) in
    omega (arith, small)

pub bounds-starts-i : goal.bounds-starts-i
bounds-starts-i c =
    let room : (c.loop-i.i - c.args.first < length c.loop-i.starts) × (c.loop-i.i - c.args.first < length c.loop-i.ends) × (c.loop-i.i - c.args.first < length c.loop-i.xs) × (c.loop-i.i - c.args.first < length c.loop-i.ys) = put_room _ _ _ c.loop-i.invariant c.loop-i-test.true c.requires.first_in_bounds in
    (room).0

pub overflow_cast-ends : goal.overflow_cast-ends
overflow_cast-ends c =
    let legible : Legible 2048 c.args.answers.now c.args.links.now (get_or c.args.slots.now c.loop-i.i 0) = from_on c.args.slots.now c.args.first c.loop-i.i c.requires.each c.loop-i.invariant.from c.loop-i-test.true in
    let small : (c.piece_of-p.result.from < 2048) × (c.piece_of-p.result.to < 2048) = rw c.piece_of-p.ensures ((legible).from, (legible).to) in
    omega (arith, small)

pub bounds-ends-i : goal.bounds-ends-i
bounds-ends-i c =
    let room : (c.loop-i.i - c.args.first < length c.loop-i.starts) × (c.loop-i.i - c.args.first < length c.loop-i.ends) × (c.loop-i.i - c.args.first < length c.loop-i.xs) × (c.loop-i.i - c.args.first < length c.loop-i.ys) = put_room _ _ _ c.loop-i.invariant c.loop-i-test.true c.requires.first_in_bounds in
    (room).1

pub bounds-xs-i : goal.bounds-xs-i
bounds-xs-i c =
    let room : (c.loop-i.i - c.args.first < length c.loop-i.starts) × (c.loop-i.i - c.args.first < length c.loop-i.ends) × (c.loop-i.i - c.args.first < length c.loop-i.xs) × (c.loop-i.i - c.args.first < length c.loop-i.ys) = put_room _ _ _ c.loop-i.invariant c.loop-i-test.true c.requires.first_in_bounds in
    (room).2

pub bounds-ys-i : goal.bounds-ys-i
bounds-ys-i c =
    let room : (c.loop-i.i - c.args.first < length c.loop-i.starts) × (c.loop-i.i - c.args.first < length c.loop-i.ends) × (c.loop-i.i - c.args.first < length c.loop-i.xs) × (c.loop-i.i - c.args.first < length c.loop-i.ys) = put_room _ _ _ c.loop-i.invariant c.loop-i-test.true c.requires.first_in_bounds in
    (room).3

pub loop-i-preserved : goal.loop-i-preserved
loop-i-preserved c = put_more _ _ _ c.loop-i.invariant c.loop-i-test.true c.piece_of-p.ensures c.requires.first_in_bounds

pub returns : goal.returns
returns c = put_done _ _ _ c.loop-i.invariant c.loop-i-test.false
