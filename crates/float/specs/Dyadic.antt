-- When an f64 is exactly a whole number of a unit: the unit is 1 / 2 ^ e. Definitions only.
use Rattle.std.specs.Prelude.{◌≡◌, ℕ, ◌^◌, ◌≤◌, Bool, true, false, ℤ, pos, neg_ℤ, Float}
use Rattle.std.specs.Float.Ieee.Exact.{HasValue}

-- n with a sign: negative where s is true
abbrev pub signed : Bool → ℕ → ℤ
signed false n = pos n
signed true n = neg_ℤ (pos n)

-- x is z of that unit, and z is at most b in size. A zero may have either sign.
pub record Exact (x : Float) (z : ℤ) (e b : ℕ) : Type 0 where
  pub sign : Bool
  pub size : ℕ
  pub value : HasValue x sign size (2 ^ e)
  pub is : signed sign size ≡ z
  pub small : size ≤ b
