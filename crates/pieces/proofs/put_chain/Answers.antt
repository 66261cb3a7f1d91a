-- `pieces::put_chain` meets its contract. Assumes nothing.
-- the chain's rows as they were lent
use Prim.Native.Nat.{min}
use mathlib.Core.Path.{◌≡◌, refl, ◌∙◌}
use native.Mathlib.Omega.{arith}
use Rattle.pieces.specs.Slots.{chain, room_of}
use Rattle.pieces.proofs.Whole.{walkable, all_held, enough, put_over, put_in}
use borrow.Author.Rules.{rules}
use Rattle.pieces.proofs.put_chain.Goals as goal

pub slice_bounds-slots_to-end : goal.slice_bounds-slots_to-end
slice_bounds-slots_to-end c = search rules

pub slots_to-first-requires : goal.slots_to-first-requires
slots_to-first-requires c = walkable c.requires.stored

pub least-requires : goal.least-requires
least-requires c = search rules

pub least-requires-2 : goal.least-requires-2
least-requires-2 c = search rules

pub least-requires-3 : goal.least-requires-3
least-requires-3 c = search rules

pub least-room-requires : goal.least-room-requires
least-room-requires c = search rules

pub overflow_sub-first : goal.overflow_sub-first
overflow_sub-first c = search rules

pub returns-then-room-first : goal.returns-then-room-first
returns-then-room-first c =
    let room : c.least-room.result ≡ min c.args.most (room_of (chain c.args.starts.now c.args.ends.now c.args.xs.now c.args.ys.now)) = c.least-room.ensures ∙ rw (c.least-3.ensures, c.least.ensures, c.least-2.ensures) refl in
    λ breaks a h. put_over c.slots_to-first.new.slots c.slots_to-first.result c.slots_to-first.ensures.slots h _ (chain c.args.starts.now c.args.ends.now c.args.xs.now c.args.ys.now) (room) c.slots_to-first.auto.slots c.if-room-first.true

pub slice_bounds-put_pieces-end : goal.slice_bounds-put_pieces-end
slice_bounds-put_pieces-end c = search rules

pub put_pieces-requires : goal.put_pieces-requires
put_pieces-requires c =
    let room : c.least-room.result ≡ min c.args.most (room_of (chain c.args.starts.now c.args.ends.now c.args.xs.now c.args.ys.now)) = c.least-room.ensures ∙ rw (c.least-3.ensures, c.least.ensures, c.least-2.ensures) refl in
    record {
      each = all_held c.slots_to-first.new.slots c.slots_to-first.result c.slots_to-first.ensures.slots c.requires;
      first_in_bounds = enough c.args.most c.args.starts.now c.args.ends.now c.args.xs.now c.args.ys.now (room) c.if-room-first.false
          (omega (arith, c.slots_to-first.auto.slots));
    }

pub overflow_sub-result : goal.overflow_sub-result
overflow_sub-result c = search rules

pub shape_of-starts : goal.shape_of-starts
shape_of-starts c = search rules

pub shape_of-ends : goal.shape_of-ends
shape_of-ends c = search rules

pub shape_of-xs : goal.shape_of-xs
shape_of-xs c = search rules

pub shape_of-ys : goal.shape_of-ys
shape_of-ys c = search rules

pub returns : goal.returns
returns c =
    let room : c.least-room.result ≡ min c.args.most (room_of (chain c.args.starts.now c.args.ends.now c.args.xs.now c.args.ys.now)) = c.least-room.ensures ∙ rw (c.least-3.ensures, c.least.ensures, c.least-2.ensures) refl in
    λ breaks a h. put_in c.slots_to-first.new.slots c.slots_to-first.result c.slots_to-first.ensures.slots h _ (chain c.args.starts.now c.args.ends.now c.args.xs.now c.args.ys.now) (room) c.slots_to-first.auto.slots c.if-room-first.false c.put_pieces.ensures
