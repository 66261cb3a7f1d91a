-- The index before another, as `previous` tests it. Assumes nothing.
use Prim.Native.Nat.{ℕ, zero, suc, ◌-◌, ◌≤◌, ◌<◌}
use mathlib.Core.Path.{◌≡◌, refl}
use native.Mathlib.Omega.{arith}
use Rattle.outline.specs.Segments.{previous}

module _ (m : ℕ) where
  pub previous_some : (k : ℕ) → 0 < k → k - 1 ≡ previous m k
  previous_some zero h = absurd (omega arith)
  previous_some (suc k) h = omega arith

  pub previous_last : (k : ℕ) → k ≤ 0 → m - 1 ≡ previous m k
  previous_last zero h = refl
  previous_last (suc k) h = absurd (omega arith)
