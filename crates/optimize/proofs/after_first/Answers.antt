-- `optimize::after_first` meets its contract. Assumes nothing.
use Prim.Native.Nat.{◌+◌, ◌-◌, ◌≤◌}
use native.Mathlib.Omega.{arith}
use Rattle.std.specs.Prelude.{None}
use mathlib.Core.Path.{◌≡◌, sym, ◌∙◌}
use lib.ListN.{length}
use Rattle.optimize.specs.Optimize.{measure_by, refused, states, splits}
use Rattle.optimize.specs.Fallen.{fallen_between, fell_after_splits, fell_after_first}
use Rattle.optimize.specs.Laws.{split_pairs}
use Rattle.optimize.specs.Stored.{lost}
use Rattle.optimize.proofs.Solving.{first_on, first_fell, first_off}
use Rattle.optimize.proofs.Phases.{between_most, all_most}
use Rattle.optimize.proofs.Trying.{went, stopped, same_room}
use Rattle.optimize.proofs.after_first.Goals as goal
use Rattle.optimize.proofs.after_first.Goals.{In_ok-t}

-- what fell in the splits
after_most : (c : In_ok-t) → c.in_ok-t.t ≤ 655360
after_most c =
    let w = went (c.try_splits.ensures c.requires.1.st c.requires.1.rep) c.in_ok-t.was in
    omega (
      arith,
      w.fell,
      all_most (measure_by c.args.samples.now c.args.breaks.now) (fallen_between c.args.samples.now c.args.breaks.now) c.args.breaks.now c.args.penalty (between_most c.args.samples.now c.args.breaks.now) (splits c.args.n) (states c.requires.1.st),
      split_pairs c.args.n,
      c.requires.1.room.few,
    )

pub overflow_add-fallen : goal.overflow_add-fallen
overflow_add-fallen c = omega (arith, after_most (goal.at.overflow_add-fallen c).In_ok-t, c.requires.2)

pub after_splits-requires : goal.after_splits-requires
after_splits-requires c =
    let w = went (c.try_splits.ensures c.requires.1.st c.requires.1.rep) c.in_ok-t.was in
    (c.requires.0, record { st = w.st; room = same_room c.try_splits.auto.answers c.try_splits.auto.links c.requires.1.room; rep = w.rep }, omega (arith, after_most (goal.at.after_splits-requires c).In_ok-t, c.requires.2))

pub returns-then-above : goal.returns-then-above
returns-then-above c = λ st rep.
    let measure = measure_by c.args.samples.now c.args.breaks.now in
    let fallen = fallen_between c.args.samples.now c.args.breaks.now in
    let last : length c.args.breaks.now - 1 ≡ c.args.n = omega (arith, c.requires.1.room.all_breaks_lem) in
    let standing = rep.stands c.args.n (omega arith) in
    let w = went (c.try_splits.ensures st rep) c.in_ok-t.was in
    let later = fell_after_splits measure fallen c.args.breaks.now c.args.penalty (states w.st) in
    let counted : c.args.fallen + fell_after_first measure fallen c.args.breaks.now c.args.penalty (states st) ≡ c.args.fallen + c.in_ok-t.t + later =
    omega (arith, first_fell measure fallen c.args.penalty c.args.breaks.now c.args.n last st c.args.answers.now c.args.links.now standing (states w.st) (sym c.above.ensures ∙ c.if-above.true) w.is, w.fell) in
    rw (first_on measure fallen c.args.penalty c.args.breaks.now c.args.n last st c.args.answers.now c.args.links.now standing (states w.st) (sym c.above.ensures ∙ c.if-above.true) w.is, counted)
    (c.after_splits.ensures w.st w.rep)

pub returns-in_err-t : goal.returns-in_err-t
returns-in_err-t c = λ st rep.
    let gone : c.from_residual.result ≡ None = grind arith in
    let measure = measure_by c.args.samples.now c.args.breaks.now in
    let fallen = fallen_between c.args.samples.now c.args.breaks.now in
    let last : length c.args.breaks.now - 1 ≡ c.args.n = omega (arith, c.requires.1.room.all_breaks_lem) in
    let standing = rep.stands c.args.n (omega arith) in
    rw (first_on measure fallen c.args.penalty c.args.breaks.now c.args.n last st c.args.answers.now c.args.links.now standing refused (sym c.above.ensures ∙ c.if-above.true) (stopped (c.try_splits.ensures st rep) c.in_err-t.was))
    (lost gone)

pub returns : goal.returns
returns c = λ st rep.
    let measure = measure_by c.args.samples.now c.args.breaks.now in
    let fallen = fallen_between c.args.samples.now c.args.breaks.now in
    let last : length c.args.breaks.now - 1 ≡ c.args.n = omega (arith, c.requires.1.room.all_breaks_lem) in
    let standing = rep.stands c.args.n (omega arith) in
    first_off measure fallen c.args.penalty c.args.breaks.now c.args.n last st c.args.answers.now c.args.links.now standing c.args.fallen (sym c.above.ensures ∙ c.if-above.false) c.standing_last.ensures
