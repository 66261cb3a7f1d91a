use native.Mathlib.Omega.{arith}
use mathlib.Core.Path.{◌≡◌, refl}
use Rattle.std.specs.Prelude.{None}
use Rattle.optimize.specs.Optimize.{falling}
use Rattle.optimize.specs.Laws.{falling_count}
use Rattle.optimize.proofs.Phases.{between_most, into_search, fall_none, sets_out, holding, skips, arrives, next_moves, next_counts, next_breaks_off, ready}
use Rattle.optimize.proofs.search_into.Goals as goal

pub loop-j-init : goal.loop-j-init
loop-j-init c =
    (c.skip_down-j.ensures.0, skips sets_out (falling c.skip_down-j.result c.args.i) (λ st rep. c.skip_down-j.ensures.1 _ _ st c.requires.1 rep))

pub returns-in_err-fallen : goal.returns-in_err-fallen
returns-in_err-fallen c =
    let gone : c.from_residual.result ≡ None = grind arith in
    rw gone (next_breaks_off c.loop-j.invariant.1 c.requires.2 c.loop-j-test.true c.loop-j.invariant.0 c.requires.1 c.try_line_quad.ensures c.in_err-fallen.was)

pub overflow_add-fallen : goal.overflow_add-fallen
overflow_add-fallen c =
    omega (
      arith,
      next_counts c.loop-j.invariant.1 c.requires.2 c.loop-j-test.true c.loop-j.invariant.0 c.requires.1 c.try_line_quad.ensures
          (between_most c.args.samples.now c.args.breaks.now) c.in_ok-fallen.was,
      falling_count c.args.i c.args.i,
      c.requires.1,
      c.requires.2.room.few,
    )

pub skip_down-j-requires-in-loop-j : goal.skip_down-j-requires-in-loop-j
skip_down-j-requires-in-loop-j c =
    let moved = next_moves c.loop-j.invariant.1 c.requires.2 c.loop-j-test.true c.loop-j.invariant.0 c.requires.1 c.try_line_quad.ensures
    c.try_line_quad.auto.answers c.try_line_quad.auto.links c.in_ok-fallen.was in
    (ready (holding moved c.requires.2) (into_search 0 _ _ c.requires.0 c.requires.1), omega (arith, c.loop-j.invariant.0))

pub loop-j-preserved : goal.loop-j-preserved
loop-j-preserved c =
    let moved = next_moves c.loop-j.invariant.1 c.requires.2 c.loop-j-test.true c.loop-j.invariant.0 c.requires.1 c.try_line_quad.ensures
    c.try_line_quad.auto.answers c.try_line_quad.auto.links c.in_ok-fallen.was in (
      omega (arith, c.loop-j.invariant.0, c.skip_down-j-in-loop-j.ensures.0),
      skips moved (falling c.skip_down-j-in-loop-j.result c.args.i) (λ st rep. c.skip_down-j-in-loop-j.ensures.1 _ _ st c.requires.1 rep),
    )

pub returns : goal.returns
returns c = λ st rep. arrives c.loop-j.invariant.1 refl (fall_none _ _ c.loop-j-test.false) st rep
