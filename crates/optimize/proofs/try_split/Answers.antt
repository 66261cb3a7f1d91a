-- `optimize::try_split` meets its contract. The first pair leaves the rows as the second asks for them. Assumes nothing.
use native.Mathlib.Omega.{arith}
use mathlib.Core.List.{List, [], ◌∷◌}
use mathlib.Core.Path.{◌≡◌, refl}
use Prim.Native.Nat.{◌+◌}
use Rattle.std.specs.Prelude.{None}
use Rattle.attempt.specs.Answers.{Best}
use Rattle.optimize.specs.Optimize.{measure_by, try_all, states}
use Rattle.optimize.specs.Fallen.{fallen_between, fell_all}
use Rattle.optimize.specs.Stored.{early, Rep, Becomes, stops}
use Rattle.optimize.proofs.Phases.{between_most, all_most, into_first, into_last, next_split, Reaching, sets_out, holding, moves, breaks_off, alone, ready}
use Rattle.optimize.proofs.Trying.{went, stopped, thens, same_room}
use Rattle.optimize.proofs.try_split.Goals as goal
use Rattle.optimize.proofs.try_split.Goals.{In_ok-t, After-try_line_quad-2}

-- the first pair went on to the second
went_on : (c : In_ok-t) →
    Reaching (measure_by c.args.samples.now c.args.breaks.now) (fallen_between c.args.samples.now c.args.breaks.now) c.args.penalty c.args.n c.args.breaks.now
    (early c.args.i) c.args.answers.now c.args.links.now ((0, c.args.i) ∷ (c.args.i, c.args.n) ∷ [])
    (early c.args.i) c.try_line_quad.new.answers c.try_line_quad.new.links (0 + c.in_ok-t.t) ((c.args.i, c.args.n) ∷ [])
went_on c =
    let measure = measure_by c.args.samples.now c.args.breaks.now in
    let fallen = fallen_between c.args.samples.now c.args.breaks.now in
    moves sets_out ((0, c.args.i) ∷ []) ((c.args.i, c.args.n) ∷ []) refl c.try_line_quad.auto.answers c.try_line_quad.auto.links
    (alone measure fallen c.args.penalty c.args.breaks.now 0 c.args.i c.requires.2.room (into_first c.args.i c.args.n c.requires.0 c.requires.1) c.try_line_quad.ensures) c.in_ok-t.was

-- what the second makes of the rows that the first left
second : (c : After-try_line_quad-2) (st : List Best) → Rep (early c.args.i) c.args.n c.args.breaks.now c.try_line_quad.new.answers c.try_line_quad.new.links st →
    Becomes (early (c.args.i + 1)) c.args.n c.args.breaks.now c.try_line_quad-2.new.answers c.try_line_quad-2.new.links
    (try_all (measure_by c.args.samples.now c.args.breaks.now) c.args.breaks.now c.args.penalty ((c.args.i, c.args.n) ∷ []) (states st))
    (fell_all (measure_by c.args.samples.now c.args.breaks.now) (fallen_between c.args.samples.now c.args.breaks.now) c.args.breaks.now c.args.penalty ((c.args.i, c.args.n) ∷ []) (states st))
    c.try_line_quad-2.result
second c st rep =
    let measure = measure_by c.args.samples.now c.args.breaks.now in
    let fallen = fallen_between c.args.samples.now c.args.breaks.now in
    alone measure fallen c.args.penalty c.args.breaks.now c.args.i c.args.n (same_room c.try_line_quad.auto.answers c.try_line_quad.auto.links c.requires.2.room)
    (into_last c.args.i c.args.i c.args.n c.requires.1 (omega arith)) c.try_line_quad-2.ensures st (next_split c.args.i rep)

pub try_line_quad-requires-2 : goal.try_line_quad-requires-2
try_line_quad-requires-2 c =
    let h = holding (went_on (goal.at.try_line_quad-requires-2 c).In_ok-t) c.requires.2 in
    ready (record { st = h.st; room = h.room; rep = next_split c.args.i h.rep }) (into_last c.args.i c.args.i c.args.n c.requires.1 (omega arith))

pub returns-in_err-t : goal.returns-in_err-t
returns-in_err-t c =
    let measure = measure_by c.args.samples.now c.args.breaks.now in
    let fallen = fallen_between c.args.samples.now c.args.breaks.now in
    let one = alone measure fallen c.args.penalty c.args.breaks.now 0 c.args.i c.requires.2.room (into_first c.args.i c.args.n c.requires.0 c.requires.1) c.try_line_quad.ensures in
    let gone : c.from_residual.result ≡ None = grind arith in
    rw gone (breaks_off {fallen = fallen} sets_out ((0, c.args.i) ∷ []) ((c.args.i, c.args.n) ∷ []) (early (c.args.i + 1)) refl one c.in_err-t.was)

pub returns-in_err-u : goal.returns-in_err-u
returns-in_err-u c = λ st rep.
    let t = (went_on (goal.at.returns-in_err-u c).In_ok-t).reach st rep in
    let gone : c.from_residual-in_err-u.result ≡ None = grind arith in
    rw (t.left, stopped (second (goal.at.returns-in_err-u c).After-try_line_quad-2 t.now t.rep) c.in_err-u.was) (stops gone)

pub overflow_add-result : goal.overflow_add-result
overflow_add-result c =
    let measure = measure_by c.args.samples.now c.args.breaks.now in
    let fallen = fallen_between c.args.samples.now c.args.breaks.now in
    let t = (went_on (goal.at.overflow_add-result c).In_ok-t).reach c.requires.2.st c.requires.2.rep in
    let w = went (second (goal.at.overflow_add-result c).After-try_line_quad-2 t.now t.rep) c.in_ok-u.was in
    let most = all_most measure fallen c.args.breaks.now c.args.penalty (between_most c.args.samples.now c.args.breaks.now) ((0, c.args.i) ∷ (c.args.i, c.args.n) ∷ []) (states c.requires.2.st) in
    omega (arith, t.fell, w.fell, most)

pub returns : goal.returns
returns c = λ st rep.
    let t = (went_on (goal.at.returns c).In_ok-t).reach st rep in
    let none_before : c.in_ok-t.t ≡ 0 + c.in_ok-t.t = omega arith in
    rw (t.left, t.fell) (thens c.in_ok-t.t c.in_ok-u.u none_before (second (goal.at.returns c).After-try_line_quad-2 t.now t.rep) c.in_ok-u.was)
