-- `quickmeasure::node_of` meets its contract. Assumes nothing.
use Prim.Native.Nat.{ℕ, zero, suc, ◌≤◌, ◌<◌}
use mathlib.Core.Path.{◌≡◌, refl}
use native.Mathlib.Omega.{arith}
use Rattle.quickmeasure.specs.Early.{node_in}
use Rattle.quickmeasure.specs.declared.Node.{Node}
use Rattle.quickmeasure.proofs.node_of.Goals as goal

in_middle : (k : ℕ) (n middle end : Node) → (k ≡ 0 → ⊥) → k < 3 → middle ≡ node_in n middle end k
unfolding node_in
in_middle zero n middle end some less = absurd (some refl)
in_middle (suc zero) n middle end some less = refl
in_middle (suc (suc zero)) n middle end some less = refl
in_middle (suc (suc (suc k))) n middle end some less = absurd (omega arith)

at_end_lem : (k : ℕ) (n middle end : Node) → 3 ≤ k → end ≡ node_in n middle end k
unfolding node_in
at_end_lem zero n middle end more = absurd (omega arith)
at_end_lem (suc zero) n middle end more = absurd (omega arith)
at_end_lem (suc (suc zero)) n middle end more = absurd (omega arith)
at_end_lem (suc (suc (suc k))) n middle end more = refl

pub returns-then-k-eq0 : goal.returns-then-k-eq0
unfolding node_in
returns-then-k-eq0 c = rw c.if-k-eq0.true

pub returns-then-k-lt3 : goal.returns-then-k-lt3
returns-then-k-lt3 c = in_middle _ _ _ _ c.if-k-eq0.false c.if-k-lt3.true

pub returns : goal.returns
returns c = at_end_lem _ _ _ _ (omega arith)
