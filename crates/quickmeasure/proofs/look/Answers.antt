use Prim.Native.Nat.{◌<◌}
use mathlib.Core.Path.{sym, ◌∙◌}
use native.Mathlib.Omega.{arith}
use lib.ListN.{length, length-set}
use Rattle.quickmeasure.proofs.Stored.{none, one_more, broken}
use Rattle.quickmeasure.proofs.look.Goals as goal

pub loop-k-init : goal.loop-k-init
loop-k-init c = (c.requires.1, none)

pub returns-in_default : goal.returns-in_default
returns-in_default c =
    broken _ _ _ c.requires.0 _ _ (omega arith) c.loop-k.invariant.1 c.loop-k-test.true (sym c.quick_lookup.ensures ∙ c.in_default.is)

pub loop-k-preserved : goal.loop-k-preserved
loop-k-preserved c =
    let room : c.loop-k.k < length c.loop-k.seen = omega arith in
    (simp length-set c.loop-k.invariant.0, one_more _ c.loop-k.invariant.1 room (sym c.quick_lookup.ensures ∙ c.in-Some.is))
