use native.Mathlib.Omega.{arith}
use mathlib.Core.Path.{◌≡◌, ap}
use Rattle.std.specs.Prelude.{None}
use Rattle.optimize.specs.Stored.{early}
use Rattle.optimize.specs.Laws.{split_pairs}
use Rattle.optimize.proofs.Phases.{between_most, split_more, split_none, moves, counts, breaks_off, arrives}
use Rattle.optimize.proofs.try_splits.Goals as goal

pub returns-in_err-fallen : goal.returns-in_err-fallen
returns-in_err-fallen c =
    let gone : c.from_residual.result ≡ None = grind arith in
    rw gone (breaks_off c.loop-i.invariant.2 _ _ _ (split_more _ _ c.loop-i-test.true) c.try_split.ensures c.in_err-fallen.was)

pub overflow_add-fallen : goal.overflow_add-fallen
overflow_add-fallen c =
    let few = between_most c.args.samples.now c.args.breaks.now in
    omega (
      arith,
      counts c.loop-i.invariant.2 _ _ few (split_more _ _ c.loop-i-test.true) c.try_split.ensures c.in_ok-fallen.was c.requires.1,
      split_pairs c.args.n,
      c.requires.1.room.few,
    )

pub loop-i-preserved : goal.loop-i-preserved
loop-i-preserved c = (
  omega (arith, c.loop-i.invariant.0),
  omega arith,
  moves c.loop-i.invariant.2 _ _ (split_more _ _ c.loop-i-test.true) c.try_split.auto.answers c.try_split.auto.links c.try_split.ensures c.in_ok-fallen.was,
)

pub returns : goal.returns
returns c = λ st rep.
    let end : c.loop-i.i ≡ c.args.n = omega (arith, c.loop-i.invariant.1, c.loop-i-test.false) in
    arrives c.loop-i.invariant.2 (ap early end) (split_none _ _ c.loop-i-test.false) st rep
