use native.Mathlib.Omega.{arith}
use borrow.Author.Rules.{rules}
use mathlib.Core.Path.{ap, ◌∙◌}
use mathlib.Core.List.{List}
use Prim.Native.Nat.{ℕ}
use lib.IntN.{pos}
use Rattle.glyf.specs.Layout.{steps, packed, coded_flags}
use Rattle.glyfwrite.proofs.Putting.{begin, more, same_row}
use Rattle.glyfwrite.proofs.Taking.{copied}
use Rattle.glyfwrite.proofs.Running.{starts, next_flag_lem, no_flag, last_run}
use Rattle.glyfwrite.proofs.flags.put_flags.Goals as goal

pub loop-i-init : goal.loop-i-init
loop-i-init c = (rw (← starts (coded_flags c.args.flags.now (steps (pos 0) c.args.xs.now) (steps (pos 0) c.args.ys.now))) (begin _ _ _), omega arith, omega arith, omega arith, omega arith)

pub loop-i-preserved : goal.loop-i-preserved
loop-i-preserved c = (
  more c.loop-i.invariant.0
      (ap (λ (l : List ℕ). packed l c.loop-i.run.flag c.loop-i.run.times)
      (next_flag_lem _ _ _ _ _ _ c.loop-i-test.true (omega arith) (omega arith) (copied (search rules)) (copied (search rules))
      c.between.ensures c.between-in-loop-i.ensures c.flag_of.ensures.value) ∙ c.next_run-run.ensures.is _) c.next_run-run.ensures.put,
  omega arith,
  omega (arith, c.next_run-run.ensures.near),
  c.next_run-run.ensures.either.1 64 c.loop-i.invariant.3 c.flag_of.ensures.upper_bound,
  c.next_run-run.ensures.either.0,
)

pub shape_of-out : goal.shape_of-out
shape_of-out c = same_row c.put_run.ensures.put ∙ c.loop-i.invariant.0.same

pub returns : goal.returns
returns c = record { put = last_run _ _ _ c.loop-i.invariant.0 (no_flag _ _ _ _ _ _ c.loop-i-test.false) c.put_run.ensures.put; upper_bound = omega (arith, c.put_run.ensures.upper_bound) }
