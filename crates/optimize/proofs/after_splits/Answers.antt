-- `optimize::after_splits` meets its contract. Assumes nothing.
use Rattle.std.specs.Prelude.{None}
use Prim.Native.Nat.{◌-◌}
use native.Mathlib.Omega.{arith}
use mathlib.Core.Path.{◌≡◌, refl, sym, ◌∙◌}
use lib.ListN.{length}
use Rattle.optimize.specs.Optimize.{measure_by, refused, states}
use Rattle.optimize.specs.Optimize as O
use Rattle.optimize.specs.Fallen.{fallen_between}
use Rattle.optimize.specs.Stored.{lost}
use Rattle.optimize.specs.Laws.{split_pairs, few_pairs}
use Rattle.optimize.proofs.Phases.{to_search, between_most, all_most}
use Rattle.optimize.proofs.Solving.{after_search, splits_on, splits_fell, splits_off}
use Rattle.optimize.proofs.Trying.{went, stopped}
use Rattle.optimize.proofs.after_splits.Goals as goal

pub overflow_add-pairs : goal.overflow_add-pairs
overflow_add-pairs c = omega (arith, c.split_pairs-pairs.ensures, split_pairs c.args.n, c.requires.1.room.few)

pub search-requires : goal.search-requires
search-requires c =
    (c.requires.0, record { st = c.requires.1.st; room = c.requires.1.room; rep = to_search c.args.n c.requires.1.rep })

pub overflow_add-pairs-then-above : goal.overflow_add-pairs-then-above
overflow_add-pairs-then-above c =
    omega (arith, c.search_pairs.ensures, c.split_pairs-pairs.ensures, split_pairs c.args.n, few_pairs c.args.n c.requires.1.room.few, c.requires.1.room.few)

pub overflow_add-fallen : goal.overflow_add-fallen
overflow_add-fallen c =
    let w = went (c.search.ensures c.requires.1.st (to_search c.args.n c.requires.1.rep)) c.in_ok-t.was in
    omega (
      arith,
      w.fell,
      all_most (measure_by c.args.samples.now c.args.breaks.now) (fallen_between c.args.samples.now c.args.breaks.now) c.args.breaks.now c.args.penalty (between_most c.args.samples.now c.args.breaks.now) (O.search c.args.n) (states c.requires.1.st),
      few_pairs c.args.n c.requires.1.room.few,
      c.requires.2,
    )

pub returns-then-above : goal.returns-then-above
returns-then-above c = λ st rep.
    let measure = measure_by c.args.samples.now c.args.breaks.now in
    let fallen = fallen_between c.args.samples.now c.args.breaks.now in
    let last : length c.args.breaks.now - 1 ≡ c.args.n = omega (arith, c.requires.1.room.all_breaks_lem) in
    let standing = rep.stands c.args.n (omega arith) in
    let w = went (c.search.ensures st (to_search c.args.n rep)) c.in_ok-t.was in
    rw (
      splits_on measure fallen c.args.penalty c.args.breaks.now c.args.n last st c.args.answers.now c.args.links.now standing (states w.st) (sym c.above.ensures ∙ c.if-above.true) w.is,
      splits_fell measure fallen c.args.penalty c.args.breaks.now c.args.n last st c.args.answers.now c.args.links.now standing (sym c.above.ensures ∙ c.if-above.true),
    )
    (after_search measure fallen c.args.penalty c.args.breaks.now c.args.n last w.st _ (c.standing_last.ensures ∙ rw (c.search_pairs.ensures, c.split_pairs-pairs.ensures, w.fell) refl) (w.rep.stands c.args.n (omega arith)))

pub returns-in_err-t : goal.returns-in_err-t
returns-in_err-t c = λ st rep.
    let gone : c.from_residual.result ≡ None = grind arith in
    let measure = measure_by c.args.samples.now c.args.breaks.now in
    let fallen = fallen_between c.args.samples.now c.args.breaks.now in
    let last : length c.args.breaks.now - 1 ≡ c.args.n = omega (arith, c.requires.1.room.all_breaks_lem) in
    let standing = rep.stands c.args.n (omega arith) in
    rw (splits_on measure fallen c.args.penalty c.args.breaks.now c.args.n last st c.args.answers.now c.args.links.now standing refused (sym c.above.ensures ∙ c.if-above.true) (stopped (c.search.ensures st (to_search c.args.n rep)) c.in_err-t.was))
    (lost gone)

pub returns : goal.returns
returns c = λ st rep.
    let measure = measure_by c.args.samples.now c.args.breaks.now in
    let fallen = fallen_between c.args.samples.now c.args.breaks.now in
    let last : length c.args.breaks.now - 1 ≡ c.args.n = omega (arith, c.requires.1.room.all_breaks_lem) in
    let standing = rep.stands c.args.n (omega arith) in
    splits_off measure fallen c.args.penalty c.args.breaks.now c.args.n last st c.args.answers.now c.args.links.now standing c.args.fallen (sym c.above.ensures ∙ c.if-above.false)
    (c.standing_last-2.ensures ∙ rw c.split_pairs-pairs.ensures refl)
