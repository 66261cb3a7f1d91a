-- `optimize::try_both` meets its contract. Assumes nothing.
use Rattle.std.specs.Prelude.{None}
use mathlib.Core.Path.{◌≡◌}
use native.Mathlib.Omega.{arith}
use Rattle.geometry.specs.Geometry.{line_quad}
use Rattle.breaks.specs.Breaks.{break_at}
use Rattle.optimize.specs.Optimize.{measure_by}
use Rattle.optimize.specs.Fallen.{fallen_between}
use Rattle.optimize.specs.Stored.{stops}
use Rattle.optimize.proofs.Phases.{between_most, bent_most}
use Rattle.optimize.proofs.Trying.{again, went, stopped, thens, same_room, line_of}
use Rattle.optimize.proofs.try_both.Goals as goal
use Rattle.optimize.proofs.try_both.Goals.{After-line-q}

straight : (c : After-line-q) → c.line-q.result ≡ line_quad (break_at c.args.breaks.now c.args.i).xy (break_at c.args.breaks.now c.args.j).xy
straight c = line_of c.line-q.ensures c.read-a.ensures c.read-b.ensures

pub try_bent-requires : goal.try_bent-requires
try_bent-requires c =
    again c.requires c.try_quad.auto.answers c.try_quad.auto.links
    (c.try_quad.ensures c.requires.phase c.requires.last c.requires.st c.requires.room c.requires.into c.requires.rep)
    c.in_ok-t.was

pub returns-in_err-t : goal.returns-in_err-t
returns-in_err-t c =
    let gone : c.from_residual.result ≡ None = grind arith in
    λ f n st room into rep. rw (← straight (goal.at.returns-in_err-t c).After-line-q, stopped (c.try_quad.ensures f n st room into rep) c.in_err-t.was) (stops gone)

pub returns-in_err-u : goal.returns-in_err-u
returns-in_err-u c =
    let gone : c.from_residual-in_err-u.result ≡ None = grind arith in
    λ f n st room into rep.
    let w = went (c.try_quad.ensures f n st room into rep) c.in_ok-t.was in
    rw (← straight (goal.at.returns-in_err-u c).After-line-q, w.is, stopped (c.try_bent.ensures f n w.st (same_room c.try_quad.auto.answers c.try_quad.auto.links room) into w.rep) c.in_err-u.was) (stops gone)

-- the two counts are at most 80 each
pub overflow_add-result : goal.overflow_add-result
overflow_add-result c =
    let w = went (c.try_quad.ensures c.requires.phase c.requires.last c.requires.st c.requires.room c.requires.into c.requires.rep) c.in_ok-t.was in
    let room = same_room c.try_quad.auto.answers c.try_quad.auto.links c.requires.room in
    let u = went (c.try_bent.ensures c.requires.phase c.requires.last w.st room c.requires.into w.rep) c.in_ok-u.was in
    omega (
      arith,
      w.fell,
      u.fell,
      between_most c.args.samples.now c.args.breaks.now c.args.i c.args.j c.line-q.result,
      bent_most (measure_by c.args.samples.now c.args.breaks.now) (fallen_between c.args.samples.now c.args.breaks.now) c.args.breaks.now c.args.penalty (between_most c.args.samples.now c.args.breaks.now) c.args.i c.args.j w.st,
    )

pub returns : goal.returns
returns c = λ f n st room into rep.
    let w = went (c.try_quad.ensures f n st room into rep) c.in_ok-t.was in
    rw (← straight (goal.at.returns c).After-line-q, w.is)
    (thens c.in_ok-t.t c.in_ok-u.u w.fell (c.try_bent.ensures f n w.st (same_room c.try_quad.auto.answers c.try_quad.auto.links room) into w.rep) c.in_ok-u.was)
