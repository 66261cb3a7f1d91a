use Prim.Native.Nat.{◌<◌}
use mathlib.Core.Path.{◌≡◌, refl, sym, ◌∙◌}
use native.Mathlib.Omega.{arith}
use lib.ListN.{length, length-set}
use Rattle.quickmeasure.proofs.Four.{none_rated, one_rated, step_missing, step_summed}
use Rattle.quickmeasure.proofs.step.Goals as goal

pub loop-k-init : goal.loop-k-init
loop-k-init c = (refl, none_rated _ _ _ _ _ _ _ _)

pub returns-in_err-r : goal.returns-in_err-r
returns-in_err-r c =
    c.from_residual.ensures ∙ sym (step_missing _ _ _ _ _ _ _ _ _ _ c.loop-k-test.true c.loop-k.invariant.1 (rw (← c.node_of.ensures) (sym c.rate.ensures ∙ c.in_err-r.was)))

pub loop-k-preserved : goal.loop-k-preserved
loop-k-preserved c =
    let room : c.loop-k.k < length c.loop-k.rates = omega arith in (
      simp length-set c.loop-k.invariant.0,
      one_rated _ _ _ _ _ _ _ _ _ _ c.loop-k.invariant.1 room (rw (← c.node_of.ensures) (sym c.rate.ensures ∙ c.in_ok-r.was)),
    )

pub returns : goal.returns
returns c =
    let end : c.loop-k.k ≡ 4 = omega arith in
    rw c.grown.ensures (sym (step_summed _ _ _ _ _ _ _ _ _ (rw end at c.loop-k.invariant.1)))
