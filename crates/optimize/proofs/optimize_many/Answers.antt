-- `optimize::optimize_many` meets its contract. Assumes nothing.
use Rattle.std.specs.Prelude.{None}
use Prim.Native.Nat.{◌+◌, ◌≤◌}
use native.Mathlib.Omega.{arith}
use mathlib.Core.Path.{◌≡◌, refl, ◌∙◌}
use lib.ListN.{replicate}
use Rattle.attempt.specs.Answers.{none}
use Rattle.optimize.specs.Optimize.{measure_by, refused, states, try_line_quad}
use Rattle.optimize.specs.Fallen.{fallen_between, fell_pair, fell_after_first, fell_of}
use Rattle.optimize.specs.Stored.{early, Becomes, lost}
use Rattle.optimize.proofs.Fresh.{no_answer}
use Rattle.optimize.proofs.Phases.{into_last, ready, between_most, pair_most}
use Rattle.optimize.proofs.Solving.{optimized_by, fell_by_lem}
use Rattle.optimize.proofs.Trying.{went, stopped, same_room}
use Rattle.optimize.proofs.optimize_many.Goals as goal
use Rattle.optimize.proofs.optimize_many.Goals.{After-try_line_quad}

-- the first pair, over rows with no answer
became : (c : After-try_line_quad) →
    Becomes (early 1) c.args.n c.args.breaks.now c.try_line_quad.new.answers c.try_line_quad.new.links
    (try_line_quad (measure_by c.args.samples.now c.args.breaks.now) c.args.breaks.now c.args.penalty 0 c.args.n (replicate (c.args.n + 1) none))
    (fell_pair (measure_by c.args.samples.now c.args.breaks.now) (fallen_between c.args.samples.now c.args.breaks.now) c.args.breaks.now c.args.penalty 0 c.args.n (replicate (c.args.n + 1) none))
    c.try_line_quad.result
became c =
    let rep = no_answer c.args.n c.args.links.now _ c.clear.ensures c.args.breaks.now c.args.answers.now in
    let first : 0 ≤ 0 = omega arith in
    c.try_line_quad.ensures (early 1) c.args.n (replicate (c.args.n + 1) none) (same_room refl c.clear.auto.links c.requires.1) (into_last 0 0 c.args.n c.requires.0 first) rep

pub try_line_quad-requires : goal.try_line_quad-requires
try_line_quad-requires c =
    ready
    (record {
      st = replicate (c.args.n + 1) none;
      room = same_room refl c.clear.auto.links c.requires.1;
      rep = no_answer c.args.n c.args.links.now _ c.clear.ensures c.args.breaks.now c.args.answers.now;
    })
    (into_last 0 0 c.args.n c.requires.0 (omega arith))

pub after_first-requires : goal.after_first-requires
after_first-requires c =
    let w = went (became (goal.at.after_first-requires c).After-try_line_quad) c.in_ok-t.was in (
      c.requires.0,
      record { st = w.st; room = same_room c.try_line_quad.auto.answers (c.try_line_quad.auto.links ∙ c.clear.auto.links) c.requires.1; rep = w.rep },
      omega (arith, w.fell, pair_most (measure_by c.args.samples.now c.args.breaks.now) (fallen_between c.args.samples.now c.args.breaks.now) c.args.breaks.now c.args.penalty (between_most c.args.samples.now c.args.breaks.now) 0 c.args.n (replicate (c.args.n + 1) none)),
    )

pub returns : goal.returns
returns c =
    let w = went (became (goal.at.returns c).After-try_line_quad) c.in_ok-t.was in
    let measure = measure_by c.args.samples.now c.args.breaks.now in
    let fallen = fallen_between c.args.samples.now c.args.breaks.now in
    let counted : fell_of measure fallen c.args.breaks.now c.args.penalty ≡
    c.in_ok-t.t + fell_after_first measure fallen c.args.breaks.now c.args.penalty (states w.st) =
    omega (arith, fell_by_lem measure c.args.penalty c.args.breaks.now c.args.n (states w.st) c.requires.1.all_breaks_lem w.is fallen, w.fell) in
    rw (optimized_by (measure_by c.args.samples.now c.args.breaks.now) c.args.penalty c.args.breaks.now c.args.n (states w.st) c.requires.1.all_breaks_lem w.is, counted)
    (c.after_first.ensures w.st w.rep)

pub returns-in_err-t : goal.returns-in_err-t
returns-in_err-t c =
    let gone : c.from_residual.result ≡ None = grind arith in
    rw (optimized_by (measure_by c.args.samples.now c.args.breaks.now) c.args.penalty c.args.breaks.now c.args.n refused c.requires.1.all_breaks_lem (stopped (became (goal.at.returns-in_err-t c).After-try_line_quad) c.in_err-t.was))
    (lost gone)
