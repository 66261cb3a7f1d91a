-- `pieces::push_slots` meets its contract. Assumes nothing.
use Rattle.std.proofs.Common.{arith, rules}
use Rattle.pieces.proofs.Whole.{walkable, all_read, quads_there}
use Rattle.pieces.proofs.push_slots.Goals as goal

pub slots_to-first-requires : goal.slots_to-first-requires
slots_to-first-requires g c =
    let walk = walkable c.requires.0 in
    (walk.0, search rules, walk.2)

pub push_pieces-requires : goal.push_pieces-requires
push_pieces-requires g c =
    (omega (arith, c.slots_to-first.ensures.place, c.slots_to-first.auto.slots), all_read c.slots_to-first.new.slots c.slots_to-first.result c.slots_to-first.ensures.slots c.requires.0)

pub returns : goal.returns
returns g c =
    λ a h. rw (← quads_there c.slots_to-first.new.slots c.slots_to-first.result c.slots_to-first.ensures.slots h) c.push_pieces.ensures
