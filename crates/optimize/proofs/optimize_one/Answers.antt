-- `optimize::optimize_one` meets its contract. Assumes nothing.
use native.Mathlib.Omega.{arith}
use Rattle.std.specs.Prelude.{None}
use mathlib.Core.Path.{◌≡◌, refl, sym, ◌∙◌}
use Rattle.breaks.specs.Breaks.{break_at}
use Rattle.optimize.specs.Stored.{lost, stays, found, in_place}
use Rattle.measure.proofs.Asked.{fallen_most}
use Rattle.optimize.proofs.One.{off_whole, off_whole_fell, one_refused, one_solved, one_solved_fell, one_bent_refused, bend_most, measured_line, bent_ok, held}
use Rattle.optimize.proofs.Trying.{is_whole_of, line_of}
use Rattle.optimize.proofs.optimize_one.Goals as goal

pub returns-then-not-is_whole : goal.returns-then-not-is_whole
returns-then-not-is_whole c =
    let off = is_whole_of c.is_whole.ensures c.read-a.ensures c.if-not-is_whole.true in
    rw (
      off_whole c.args.samples.now c.args.breaks.now c.args.penalty c.requires.all_breaks_lem off,
      off_whole_fell c.args.samples.now c.args.breaks.now c.args.penalty c.requires.all_breaks_lem off,
    ) (stays refl)

pub returns-in_err-straight : goal.returns-in_err-straight
returns-in_err-straight c =
    let gone : c.from_residual.result ≡ None = grind arith in
    let whole = is_whole_of c.is_whole.ensures c.read-a.ensures c.if-not-is_whole.false in
    let made = measured_line c.args.samples.now (break_at c.args.breaks.now 0) _ _ c.straight_in_place.ensures.is c.in_err-straight.was c.read-a.ensures in
    rw (one_refused c.args.samples.now c.args.breaks.now c.args.penalty c.requires.all_breaks_lem whole made) (lost gone)

pub overflow_add-result : goal.overflow_add-result
overflow_add-result c =
    let made = measured_line c.args.samples.now (break_at c.args.breaks.now 0) _ _ c.straight_in_place.ensures.is c.in_ok-straight.was c.read-a.ensures in
    omega (
      arith,
      made.1,
      fallen_most c.args.samples.now (break_at c.args.breaks.now 0).s (break_at c.args.breaks.now 0).s (in_place (break_at c.args.breaks.now 0).xy),
      bend_most c.args.samples.now c.read-a.result (sym c.bend_in_place.ensures ∙ c.in_ok-t.was),
    )

pub returns-in_err-t : goal.returns-in_err-t
returns-in_err-t c =
    let gone : c.from_residual-in_err-t.result ≡ None = grind arith in
    let whole = is_whole_of c.is_whole.ensures c.read-a.ensures c.if-not-is_whole.false in
    let made = measured_line c.args.samples.now (break_at c.args.breaks.now 0) _ _ c.straight_in_place.ensures.is c.in_ok-straight.was c.read-a.ensures in
    let spoilt = c.straight_in_place.ensures.spoilt (sym c.is_whole.ensures ∙ c.if-not-is_whole.false) _ c.in_ok-straight.was in
    rw (one_bent_refused c.args.samples.now c.args.breaks.now c.args.penalty c.requires.all_breaks_lem whole _ made.0 spoilt
    (bent_ok c.args.samples.now c.bend_in_place.ensures c.read-a.ensures ∙ c.in_err-t.was)) (lost gone)

pub returns : goal.returns
returns c =
    let whole = is_whole_of c.is_whole.ensures c.read-a.ensures c.if-not-is_whole.false in
    let made = measured_line c.args.samples.now (break_at c.args.breaks.now 0) _ _ c.straight_in_place.ensures.is c.in_ok-straight.was c.read-a.ensures in
    let spoilt = c.straight_in_place.ensures.spoilt (sym c.is_whole.ensures ∙ c.if-not-is_whole.false) _ c.in_ok-straight.was in
    let ok = bent_ok c.args.samples.now c.bend_in_place.ensures c.read-a.ensures ∙ c.in_ok-t.was in
    rw (
      one_solved c.args.samples.now c.args.breaks.now c.args.penalty c.requires.all_breaks_lem whole _ made.0 spoilt ok,
      one_solved_fell c.args.samples.now c.args.breaks.now c.args.penalty c.requires.all_breaks_lem whole _ made.0 spoilt ok,
      ← made.1,
    )
    (found refl
    (held c.args.breaks.now c.args.penalty c.args.answers.now c.args.links.now (omega (arith, c.requires.in_answers)) (omega (arith, c.requires.in_links)) _ _ _ _
    c.start.ensures (line_of c.line-quad.ensures c.read-a.ensures c.read-a.ensures) c.total-score.ensures c.store.ensures.answers c.store.ensures.links))
