-- What the steps of the quick root hand to each other. Definitions only.
use Rattle.std.specs.Prelude.{◌≡◌, ℕ, ◌+◌, ◌-◌, ◌*◌, ◌/◌, ◌%◌, ◌^◌, ◌<◌, ◌≤◌, Float}
use Rattle.float.specs.Float.{root_of, root_units}

-- b is the pattern of a normal f64 above zero: its exponent's field is neither 0 nor all ones
pub record IsNormal (b : ℕ) : Type 0 where
  pub least : 2 ^ 52 ≤ b
  pub most : b < 2047 * 2 ^ 52

-- where b is such a pattern, it is x's: the root of x is that of its digits and its exponent
pub record PatternOf (x : Float) (b : ℕ) : Type 0 where
  pub bounded : b ≤ 2047 * 2 ^ 52
  pub units : IsNormal b → root_of x ≡ root_units ((b % 2 ^ 52 + 2 ^ 52) * 2 ^ (b / 2 ^ 52 - 1))
