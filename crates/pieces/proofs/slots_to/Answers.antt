use Rattle.std.proofs.Common.{◌≡◌, ◌∙◌, arith, length, length-set}
use Rattle.pieces.proofs.Slots.{walk_start, walk_more, walked, opens, in_links}
use Rattle.pieces.proofs.slots_to.Goals as goal

pub loop-at-init : goal.loop-at-init
loop-at-init c = walk_start c.args.slots.now c.requires.0 c.requires.1

pub offset_bounds-links-at : goal.offset_bounds-links-at
offset_bounds-links-at c = omega (arith, in_links c.loop-at.invariant.falls)

pub bounds-links-at : goal.bounds-links-at
bounds-links-at c = in_links c.loop-at.invariant.falls

pub offset_bounds-links-at-in-loop-at : goal.offset_bounds-links-at-in-loop-at
offset_bounds-links-at-in-loop-at c = omega (arith, in_links c.loop-at.invariant.falls)

pub bounds-links-at-in-loop-at : goal.bounds-links-at-in-loop-at
bounds-links-at-in-loop-at c = in_links c.loop-at.invariant.falls

pub overflow_sub-i-in-loop-at : goal.overflow_sub-i-in-loop-at
overflow_sub-i-in-loop-at c = omega (arith, (opens c.loop-at.invariant.falls c.loop-at-test.true).down)

pub overflow_cast-slots-in-loop-at : goal.overflow_cast-slots-in-loop-at
overflow_cast-slots-in-loop-at c = omega (arith, (opens c.loop-at.invariant.falls c.loop-at-test.true).down)

pub offset_bounds-slots-i-in-loop-at : goal.offset_bounds-slots-i-in-loop-at
offset_bounds-slots-i-in-loop-at c =
    let long : length c.loop-at.slots ≡ length c.args.slots.now = c.loop-at.invariant.long ∙ simp length-set in
    omega (arith, long)

pub loop-at-smaller : goal.loop-at-smaller
loop-at-smaller c = (opens c.loop-at.invariant.falls c.loop-at-test.true).down

pub loop-at-preserved : goal.loop-at-preserved
loop-at-preserved c = walk_more c.loop-at.invariant c.loop-at-test.true

pub shape_of-slots : goal.shape_of-slots
shape_of-slots c = c.loop-at.invariant.long ∙ simp length-set

pub returns : goal.returns
returns c =
    let long : length c.loop-at.slots ≡ length c.args.slots.now = c.loop-at.invariant.long ∙ simp length-set in
    record { slots = walked c.loop-at.invariant c.loop-at-test.false; place = omega (arith, long, c.loop-at.invariant.inside) }
