-- What the steps of a function hand to each other. Definitions only.
use Rattle.std.specs.Prelude.{◌≡◌, ℕ, zero, suc, ◌+◌, ◌-◌, ◌*◌, ◌/◌, ◌%◌, ◌^◌, ◌<◌, ◌≤◌, false, cond, nat_lt, Float}
use Rattle.std.specs.Float.Ieee as Ieee
use Rattle.std.specs.Float.{nan, inf, fin, binary64}
use Rattle.float.specs.Float.{root_near}
use Rattle.float.specs.declared.Underway.{Underway}
use Rattle.float.specs.declared.Radicand.{Radicand}
use Rattle.float.specs.declared.Radicand.TheVariants.{Answer, Scaled}

-- ---- whole numbers

-- the magnitude n with x's sign, as an f64; x itself, where it is a zero
unfoldable pub with_sign : ℕ → Float → Float
with_sign n nan = nan
with_sign n (inf s) = Ieee.round binary64 s n 1
with_sign n (fin s zero e) = fin s zero e
with_sign n (fin s (suc m) e) = Ieee.round binary64 s n 1

-- ---- the root

-- q is the root of n, rounded down, and n is rest above its square
pub record Rooted (n q rest : ℕ) : Type 0 where
  pub sum : q * q + rest ≡ n
  pub within : rest ≤ 2 * q

-- One turn of a root under way, from s to r: what was taken in is four times as much and the two digits at the top of what is left; the root has
-- one digit more, and is the root of that, rounded down.
pub record Turned (s r : Underway) : Type 0 where
  pub sum : r.root * r.root + r.rest ≡ 4 * (s.root * s.root + s.rest) + s.left / 2 ^ 62
  pub within : r.rest ≤ 2 * r.root
  pub digit : r.root / 2 ≡ s.root
  pub left : r.left ≡ s.left * 4 % 2 ^ 64

-- the nearest whole number to the root of q * q + rest
abbrev pub up_if_more : ℕ → ℕ → ℕ
up_if_more q rest = cond (nat_lt q rest) (q + 1) q

-- w has 63 or 64 binary digits, of which only the leading 53 may be ones, so the root of w * 2 ^ 42 has 53 digits, also where it is rounded up
pub record Normal (w : ℕ) : Type 0 where
  pub least : 2 ^ 62 ≤ w
  pub most : w ≤ 2 ^ 64 - 2 ^ 11
  pub tail : w % 2 ^ 10 ≡ 0

-- p * 2 ^ k smallest values, 2 ^ -1074: an f64 for a p of 53 digits and a k below 2046
abbrev pub scaled : ℕ → ℕ → Float
scaled p k = Ieee.odd 53 false p k 1074

-- the root y is the answer a; or it is the nearest root of w * 2 ^ 42, times 2 ^ k smallest values
abbrev pub Leaves : Float → Radicand → Type 0
Leaves y (Answer a) = a ≡ y
Leaves y (Scaled w k) = Normal w × (k < 2046) × (scaled (root_near 53 (w * 2 ^ 42)) k ≡ y)
