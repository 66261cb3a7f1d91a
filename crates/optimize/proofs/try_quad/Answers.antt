-- `optimize::try_quad` meets its contract: the rows are carried through by `made`. Assumes nothing.
use native.Mathlib.Omega.{arith}
use mathlib.Core.Path.{◌≡◌, ◌∙◌}
use Rattle.std.specs.Prelude.{None}
use Rattle.optimize.specs.Optimize.{measure_by}
use Rattle.optimize.specs.Stored.{stops}
use Rattle.optimize.proofs.Leaves.{combine_same, makes_of}
use Rattle.optimize.proofs.Trying.{quad_refused, made, readable_from, readable_to, room_from}
use Rattle.optimize.proofs.try_quad.Goals as goal

pub standing-previous-requires : goal.standing-previous-requires
standing-previous-requires c =
    (room_from c.requires.ready, readable_from c.requires.ready)

pub load-old-requires : goal.load-old-requires
load-old-requires c =
    rw c.slot_of.ensures (readable_to c.requires.ready)

pub returns-in_err-made : goal.returns-in_err-made
returns-in_err-made c = λ f n st room into rep.
    let lost = rw c.in_err-made.was at c.attempted.ensures in
    let gone : c.from_residual.result ≡ None = grind arith in
    rw (quad_refused _ _ _ _ _ _ _ lost) (stops gone)

pub returns : goal.returns
returns c = λ f n st room into rep.
    let makes = makes_of _ _ _ _ _ _ _ _ c.in_ok-made.was c.attempted.ensures in
    rw (c.store.ensures.answers, c.store.ensures.links)
    (made room into rep (measure_by c.args.samples.now c.args.breaks.now) c.args.q (record { error = makes.error }) c.args.penalty c.in_ok-made.made.answer makes.fell
    c.requires.p0_value.0 c.requires.p0_value.1 makes.is
    (makes.same ∙ combine_same makes.error _ _ (rw c.slot_of.ensures at c.load-old.ensures) c.standing-previous.ensures))
