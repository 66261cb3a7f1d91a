-- Laws for callers: a walk along a list of runs, run by run. Assumes nothing.
use Rattle.std.specs.Prelude.{ℕ, zero, suc, ◌≤◌, List, [], ◌∷◌, ◌≡◌, refl, length, drop, Some, None}
use Rattle.std.proofs.Common.{arith}
use Rattle.runs.specs.Runs.{between, run_at}
use Rattle.runs.specs.declared.Run.{Run}

-- where run k is, the list from k on begins with it
pub run_here : (rs : List Run) (k : ℕ) {r : Run} → run_at rs k ≡ Some r → drop k rs ≡ r ∷ drop (suc k) rs
unfolding run_at
run_here [] k e = absurd cc
run_here (r ∷ rs) zero {r = q} e = let same : r ≡ q = cc in rw same refl
run_here (r ∷ rs) (suc k) e = run_here rs k e

-- and where there is none, nothing is left
pub run_none : (rs : List Run) (k : ℕ) → run_at rs k ≡ None → drop k rs ≡ []
unfolding run_at
run_none [] zero e = refl
run_none [] (suc k) e = refl
run_none (r ∷ rs) zero e = absurd cc
run_none (r ∷ rs) (suc k) e = run_none rs k e

-- there are no more runs than corners
pub runs_end : (corners : List ℕ) (k : ℕ) → length corners ≤ k → drop k (between corners) ≡ []
unfolding between
runs_end [] zero h = refl
runs_end [] (suc k) h = refl
runs_end (a ∷ []) zero h = absurd (omega arith)
runs_end (a ∷ []) (suc k) h = refl
runs_end (a ∷ b ∷ corners) zero h = absurd (omega arith)
runs_end (a ∷ b ∷ corners) (suc k) h = runs_end (b ∷ corners) k (omega arith)
