use Prim.Native.Nat.{◌+◌, ◌≤◌, ◌<◌}
use native.Mathlib.Omega.{arith}
use mathlib.Core.Path.{◌≡◌, ap}
use Rattle.std.specs.Prelude.{None}
use Rattle.optimize.specs.Stored.{late}
use Rattle.optimize.specs.Laws.{few_pairs}
use Rattle.optimize.proofs.Phases.{between_most, next_search, search_more, search_none, moves, counts, breaks_off, arrives, rephased}
use Rattle.optimize.proofs.search.Goals as goal

pub returns-in_err-fallen : goal.returns-in_err-fallen
returns-in_err-fallen c =
    let here : c.loop-i.i ≤ c.args.n = omega (arith, c.loop-i-test.true) in
    let gone : c.from_residual.result ≡ None = grind arith in
    rw gone (breaks_off c.loop-i.invariant.2 _ _ _ (search_more _ _ here) c.search_from_mark.ensures c.in_err-fallen.was)

pub overflow_add-fallen : goal.overflow_add-fallen
overflow_add-fallen c =
    let few = between_most c.args.samples.now c.args.breaks.now in
    let here : c.loop-i.i ≤ c.args.n = omega (arith, c.loop-i-test.true) in
    omega (
      arith,
      counts c.loop-i.invariant.2 _ _ few (search_more _ _ here) c.search_from_mark.ensures c.in_ok-fallen.was c.requires.1,
      few_pairs c.args.n c.requires.1.room.few,
    )

pub loop-i-preserved : goal.loop-i-preserved
loop-i-preserved c = let here : c.loop-i.i ≤ c.args.n = omega (arith, c.loop-i-test.true) in (
  omega (arith, c.loop-i.invariant.0),
  omega (arith, here),
  moves c.loop-i.invariant.2 _ _ (search_more _ _ here) c.search_from_mark.auto.answers c.search_from_mark.auto.links
      (λ st rep. rephased (λ st. next_search c.loop-i.i) (c.search_from_mark.ensures st rep)) c.in_ok-fallen.was,
)

pub returns : goal.returns
returns c = λ st rep.
    let end : c.loop-i.i ≡ c.args.n + 1 = omega (arith, c.loop-i.invariant.1, c.loop-i-test.false) in
    let over : c.args.n < c.loop-i.i = omega (arith, c.loop-i-test.false) in
    arrives c.loop-i.invariant.2 (ap late end) (search_none _ _ over) st rep
