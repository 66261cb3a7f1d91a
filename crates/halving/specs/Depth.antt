-- How often a cubic is halved: `all_halved`, with no test, is what the depth theorem speaks of. Definitions only.
use Rattle.std.specs.Prelude.{ℕ, zero, suc, ◌+◌, ◌*◌, ◌≤◌, ◌<◌, true, false, List, [], ◌∷◌, ◌++◌, ◌≡◌, ℤ}
use Rattle.halving.specs.Cubic.{Curve, first_part, second_part, bent, control_point, start_point, between}

-- the points between a cubic's ends where every part is halved d times
unfoldable pub all_halved : ℕ → ℕ → Curve → List (List ℤ)
all_halved zero e c = control_point e c ∷ []
all_halved (suc d) e c = all_halved d (e + 3) (first_part c) ++ (start_point (e + 3) (second_part c) ∷ all_halved d (e + 3) (second_part c))

-- d is the depth of every part: before, each is halved; then none is; and the halvings left never run out
pub record Depth (c : Curve) (d : ℕ) : Type 0 where
  pub few : d ≤ 5
  pub halved : (k : ℕ) → k < d → bent (3 * k) c ≡ true
  pub enough : bent (3 * d) c ≡ false
  pub parts : (left : ℕ) → d ≤ left → between left 0 c ≡ all_halved d 0 c
