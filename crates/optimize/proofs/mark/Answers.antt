-- `optimize::mark` meets its contract. Assumes nothing.
use mathlib.Core.Path.{◌∙◌}
use Rattle.optimize.proofs.Leaves.{combine_same, link_is}
use Rattle.optimize.proofs.Trying.{readable_from, readable_to, room_from, from_upto}
use Rattle.optimize.proofs.Marking.{unmarked, marked}
use Rattle.optimize.proofs.mark.Goals as goal

pub standing-previous-requires : goal.standing-previous-requires
standing-previous-requires c = (room_from c.requires.ready, readable_from c.requires.ready)

pub load-old-requires : goal.load-old-requires
load-old-requires c = rw c.slot_of.ensures (readable_to c.requires.ready)

pub returns-then-old-eq0 : goal.returns-then-old-eq0
returns-then-old-eq0 c = λ f n room into st rep. unmarked rep

pub returns-in_default : goal.returns-in_default
returns-in_default c = λ f n room into st rep. unmarked rep

pub returns-then-total : goal.returns-then-total
returns-then-total c = λ f n room into st rep.
    let told = rw c.in-Some.is at c.measure_quad.ensures in
    rw (c.store.ensures.answers, c.store.ensures.links)
    (marked room into rep c.args.samples.now c.args.q c.in-Some.counted.measure _ c.args.penalty c.combine-a.result (c.requires.offered f n st (from_upto into) rep) told.0
    (λ z. c.if-old-eq0.false (◌∙◌ {c = 0} (link_is c.args.breaks.now c.args.answers.now c.args.links.now c.args.j _ _ c.slot_of.ensures c.load-old.ensures) z))
    (rw (← c.standing-previous.ensures, ← c.total.ensures, ← c.total-2.ensures) c.if-total.true)
    (c.combine-a.ensures ∙ combine_same _ _ _ (rw c.slot_of.ensures at c.load-old.ensures) c.standing-previous.ensures))

pub returns-else-total : goal.returns-else-total
returns-else-total c = λ f n room into st rep. unmarked rep
