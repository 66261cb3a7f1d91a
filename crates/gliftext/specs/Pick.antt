-- One of two by a test. Definitions only.
use Rattle.std.specs.Prelude.{ℕ, ◌+◌, ◌-◌, Bool, true, false, ltb, leb}

unfoldable pub pick : {A : Type 0} → Bool → A → A → A
pick true a b = a
pick false a b = b

abbrev pub both : Bool → Bool → Bool
both a b = pick a b false

abbrev pub either : Bool → Bool → Bool
either a b = pick a true b

-- the last number of 64 bits
abbrev pub most : ℕ
most = 18446744073709551615

-- one more, as far as 64 bits go
unfoldable pub more : ℕ → ℕ
more a = pick (ltb a most) (a + 1) a

-- as far as 64 bits go
unfoldable pub sum : ℕ → ℕ → ℕ
sum a b = pick (leb a (most - b)) (a + b) most
