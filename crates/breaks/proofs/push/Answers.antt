-- `breaks::push` meets its contract. Assumes nothing.
use native.Mathlib.Omega.{arith}
use Rattle.breaks.proofs.Laws.{no_room, has_room}
use Rattle.breaks.proofs.push.Goals as goal

pub returns-then-row-n : goal.returns-then-row-n
returns-then-row-n c =
    record { row = λ distance. no_room c.args.row.now c.args.n c.requires c.args.b (distance c.args.dist) c.if-row-n.true; count = omega arith }

pub returns : goal.returns
returns c =
    record { row = λ distance. rw c.packed.ensures (has_room c.args.row.now c.args.n c.requires c.args.b (distance c.args.dist) c.if-row-n.false); count = omega arith }
