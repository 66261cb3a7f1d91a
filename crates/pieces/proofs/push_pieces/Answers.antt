use Rattle.std.proofs.Common.{arith, length, get_or}
use Rattle.pieces.specs.Slots.{Legible}
use Rattle.pieces.proofs.Going.{from_on, push_start, push_more, push_done}
use Rattle.pieces.proofs.push_pieces.Goals as goal

pub loop-i-init : goal.loop-i-init
loop-i-init c = push_start _ _ _ _ _

pub offset_bounds-links-k : goal.offset_bounds-links-k
offset_bounds-links-k c =
    let legible : Legible (length c.args.breaks.now) c.args.answers.now c.args.links.now (get_or c.args.slots.now c.loop-i.i 0) = from_on c.args.slots.now c.args.first c.loop-i.i c.requires.1 c.loop-i.invariant.from c.loop-i-test.true in
    omega (arith, (legible).in_links)

pub bounds-links-k : goal.bounds-links-k
bounds-links-k c =
    let legible : Legible (length c.args.breaks.now) c.args.answers.now c.args.links.now (get_or c.args.slots.now c.loop-i.i 0) = from_on c.args.slots.now c.args.first c.loop-i.i c.requires.1 c.loop-i.invariant.from c.loop-i-test.true in
    (legible).in_links

pub quad_of-requires : goal.quad_of-requires
quad_of-requires c =
    let legible : Legible (length c.args.breaks.now) c.args.answers.now c.args.links.now (get_or c.args.slots.now c.loop-i.i 0) = from_on c.args.slots.now c.args.first c.loop-i.i c.requires.1 c.loop-i.invariant.from c.loop-i-test.true in
    ((legible).in_answers, (legible).to, (legible).from)

pub loop-i-preserved : goal.loop-i-preserved
loop-i-preserved c = push_more _ _ _ c.loop-i.invariant c.loop-i-test.true c.quad_of.ensures c.push_piece-v.auto.points c.push_piece-v.ensures

pub returns : goal.returns
returns c = push_done _ _ _ c.loop-i.invariant c.requires.0 c.loop-i-test.false
