-- `optimize::find_bend` meets its contract. Assumes nothing.
use Rattle.std.specs.Prelude.{Some, None}
use native.Mathlib.Omega.{arith}
use mathlib.Core.Bool.{true, false}
use mathlib.Core.Path.{◌≡◌, refl, sym, ◌∙◌}
use Rattle.geometry.specs.Geometry.{round_point_of, intersect_of}
use Rattle.geometry.specs.declared.Point.{Point}
use Rattle.geometry.specs.declared.Quad.{Quad}
use Rattle.breaks.specs.Breaks.{Row, break_at}
use Rattle.attempt.specs.Answers.{ok_for_half}
use Rattle.optimize.specs.Optimize.{best_at}
use Rattle.optimize.proofs.Attempt.{stands_half}
use Rattle.optimize.proofs.Trying.{crossing_of, quad_of_lem, half_of, bend_nowhere, bend_allowed, bend_not_allowed}
use Rattle.optimize.proofs.find_bend.Goals as goal

pub returns-in_err-p : goal.returns-in_err-p
returns-in_err-p c = λ f n st upto rep.
    let gone : c.from_residual.result ≡ None = grind arith in
    rw gone (bend_nowhere _ _ _ _ (sym c.in_err-p.was ∙ c.intersect.ensures ∙ crossing_of c.read-a.ensures c.read-b.ensures))

pub returns-then-ok_for_half : goal.returns-then-ok_for_half
returns-then-ok_for_half c = λ f n st upto rep.
    let bs : Row = c.args.breaks.now in
    let p : Point = c.in_ok-p.p in
    let crosses : (Some p) ≡ intersect_of (break_at bs c.args.i).xy (break_at bs c.args.i).dir (break_at bs c.args.j).xy (break_at bs c.args.j).dir =
    sym c.in_ok-p.was ∙ c.intersect.ensures ∙ crossing_of c.read-a.ensures c.read-b.ensures in
    let quad : Quad = record { p0 = c.read-a.result.xy; p1 = c.round-p1.result; p2 = c.read-b.result.xy } in
    let bends : quad ≡ record { p0 = (break_at bs c.args.i).xy; p1 = round_point_of p; p2 = (break_at bs c.args.j).xy } =
    quad_of_lem c.read-a.ensures c.round-p1.ensures c.read-b.ensures in
    -- whether it is allowed, of the states
    let allows : ok_for_half (best_at st c.args.i) quad ≡ true =
    sym (stands_half quad (rep.stands c.args.i upto)) ∙ sym (half_of {q = quad} c.standing-previous.ensures refl) ∙ sym c.ok_for_half.ensures ∙ c.if-ok_for_half.true in
    bend_allowed _ _ _ _ p quad crosses bends allows

pub returns : goal.returns
returns c = λ f n st upto rep.
    let bs : Row = c.args.breaks.now in
    let p : Point = c.in_ok-p.p in
    let crosses : (Some p) ≡ intersect_of (break_at bs c.args.i).xy (break_at bs c.args.i).dir (break_at bs c.args.j).xy (break_at bs c.args.j).dir =
    sym c.in_ok-p.was ∙ c.intersect.ensures ∙ crossing_of c.read-a.ensures c.read-b.ensures in
    let quad : Quad = record { p0 = c.read-a.result.xy; p1 = c.round-p1.result; p2 = c.read-b.result.xy } in
    let bends : quad ≡ record { p0 = (break_at bs c.args.i).xy; p1 = round_point_of p; p2 = (break_at bs c.args.j).xy } =
    quad_of_lem c.read-a.ensures c.round-p1.ensures c.read-b.ensures in
    -- whether it is allowed, of the states
    let allows : ok_for_half (best_at st c.args.i) quad ≡ false =
    sym (stands_half quad (rep.stands c.args.i upto)) ∙ sym (half_of {q = quad} c.standing-previous.ensures refl) ∙ sym c.ok_for_half.ensures ∙ c.if-ok_for_half.false in
    bend_not_allowed _ _ _ _ p quad crosses bends allows
