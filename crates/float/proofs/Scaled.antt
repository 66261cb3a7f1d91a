-- `normalised`: the numbers that it makes of m and i. With z leading zeros, m * 2 ^ z has its leading digit at the top, and m * 2 ^ i has 64 - z + i digits. Assumes nothing.
use Rattle.std.proofs.Common.{◌≡◌, ℕ, zero, suc, ◌+◌, ◌-◌, ◌*◌, ◌/◌, ◌%◌, ◌^◌, ◌<◌, ◌≤◌, Bool, true, false, cond, ltb, sym, refl, ap, ◌∙◌, subst, le_trans, le_of_eq, lt_of_lt_of_le, le_of_suc-le-suc, lt_of_le_of_lt, mul-le-mul_right, mod-eq_of_lt, mul_assoc, mul-le-mul, le_antisymm, lt_of_mul-lt-mul_right, suc-add, pow-suc, lt_of_not-le, sub-add_cancel, div-le_self, not-le_of_lt, mul-div_cancel, arith, lit<, lit≤, pow_pos, pow_mono, pow-add, shl_lt, ltb-true}
use lib.Count.{count_leading_zeros, leading_top}
use lib.Ieee.{size}
use lib.Ieee.Digits.{size-lt, size-le}
use Rattle.float.specs.Float.{root_down, root_near, root_units}
use Rattle.float.specs.Steps.{Normal, scaled, Leaves}
use Rattle.float.specs.declared.Radicand.TheVariants.{Scaled}
use Rattle.float.proofs.Squares.{Root, root_down_lem}

-- ---- powers of two
pub pow_lt_back : (a b : ℕ) → 2 ^ a < 2 ^ b → a < b
pow_lt_back a b h = lt_of_not-le (λ (g : b ≤ a). not-le_of_lt h (pow_mono g))

pub four_pow : (h : ℕ) → 4 ^ h ≡ 2 ^ (h + h)
four_pow zero = refl
four_pow (suc h) = pow-suc 4 h ∙ ap (λ (a : ℕ). a * 4) (four_pow h) ∙ sym (pow-add 2 (h + h) 2) ∙ ap (λ (k : ℕ). 2 ^ k) (two_more h)
  where
    two_more : (h : ℕ) → h + h + 2 ≡ suc h + suc h
    two_more h = omega arith

pub four_pos : (h : ℕ) → 0 < 4 ^ h
four_pos h = subst (λ (a : ℕ). 0 < a) (sym (four_pow h)) (pow_pos (h + h))

gathered : (m a b : ℕ) → m * 2 ^ a * 2 ^ b ≡ m * 2 ^ (a + b)
gathered m a b = mul_assoc m (2 ^ a) (2 ^ b) ∙ ap (λ (c : ℕ). m * c) (sym (pow-add 2 a b))

pub shifted : (m a b : ℕ) → b ≤ a → m * 2 ^ a ≡ m * 2 ^ (a - b) * 2 ^ b
shifted m a b h = ap (λ (k : ℕ). m * 2 ^ k) (sym (sub-add_cancel h)) ∙ sym (gathered m (a - b) b)

size_exact : (a n : ℕ) → 2 ^ a ≤ n → n < 2 ^ suc a → size n ≡ suc a
size_exact a n lo hi = le_antisymm (size-le n (suc a) hi) (pow_lt_back a (size n) (lt_of_le_of_lt lo (size-lt n)))

-- ---- a root of 53 digits: the nearest one does not carry to a 54th
module _ {w : ℕ} (normal : Normal w) where
  abbrev n : ℕ
  n = w * 2 ^ 42

  abbrev q : ℕ
  q = root_down 53 n

  lo : 2 ^ 104 ≤ n
  lo = omega (arith, normal.least)

  hi : n ≤ (2 ^ 53 - 1) * 2 ^ 53
  hi = omega (arith, normal.most)

  pub below : n < 4 ^ 53
  below = lt_of_le_of_lt hi (lit< tt)

  down : Root n q
  down = root_down_lem 53 n below

  down_ge : 2 ^ 52 ≤ q
  down_ge = le_of_suc-le-suc (lt_of_not-le (λ (g : suc q ≤ 2 ^ 52).
      let g' : q + 1 ≤ 2 ^ 52 = omega arith in
      not-le_of_lt down.1 (le_trans (mul-le-mul g' g') lo)))

  down_lt : q < 2 ^ 53
  down_lt = lt_of_not-le (λ (g : 2 ^ 53 ≤ q). not-le_of_lt below (le_trans (mul-le-mul g g) down.0))

  -- 2 ^ 53 - 1 has q * q + q = (2 ^ 53 - 1) * 2 ^ 53
  no_carry : q < n - q * q → q + 1 < 2 ^ 53
  no_carry h = lt_of_not-le (λ (g : 2 ^ 53 ≤ q + 1).
      let g' : 2 ^ 53 - 1 ≤ q = omega arith in
      let s : (2 ^ 53 - 1) * (2 ^ 53 - 1) ≤ q * q = mul-le-mul g' g' in
      omega (arith, hi))

  by_test : (b : Bool) → (b ≡ true → q < n - q * q) → (2 ^ 52 ≤ cond b (q + 1) q) × (cond b (q + 1) q < 2 ^ 53)
  by_test true f = (omega (arith, down_ge), no_carry (f refl))
  by_test false f = (down_ge, down_lt)

  pub root_in : (2 ^ 52 ≤ root_near 53 n) × (root_near 53 n < 2 ^ 53)
  unfolding root_near
  root_in = by_test (ltb q (n - q * q)) (ltb-true q (n - q * q))

pub root_units_is : (n : ℕ) → root_units n ≡ scaled (root_near 53 (n * 2 ^ 106 / 4 ^ ((size n + 1) / 2))) ((size n + 1) / 2 + 484)
unfolding root_units
root_units_is n = refl

-- ---- the code's numbers
abbrev pub size_of : ℕ → ℕ → ℕ
size_of m i = 64 - count_leading_zeros 64 m + i

abbrev pub word : ℕ → ℕ → ℕ
word m i = m * 2 ^ count_leading_zeros 64 m % 2 ^ 64 / 2 ^ (size_of m i % 2)

abbrev pub half : ℕ → ℕ → ℕ
half m i = (size_of m i + 1) / 2

module _ (m i : ℕ) (pos : 0 < m) (small : m < 2 ^ 53) where
  -- j is the place of m's leading digit
  abbrev z : ℕ
  z = count_leading_zeros 64 m

  lead : (j : ℕ) × (z + suc j ≡ 64) × (2 ^ j ≤ m) × (m < 2 ^ suc j)
  lead = leading_top 64 m pos (lt_of_lt_of_le small (lit≤ tt))

  abbrev j : ℕ
  j = lead.0

  j_lt : j < 53
  j_lt = pow_lt_back j 53 (lt_of_le_of_lt lead.2 small)

  pub zeros_lt : z < 64
  zeros_lt = omega (arith, lead.1)

  eleven : 11 ≤ z
  eleven = omega (arith, lead.1, j_lt)

  size_is : size (m * 2 ^ i) ≡ size_of m i
  size_is =
      size_exact (j + i) (m * 2 ^ i)
      (subst (λ (a : ℕ). a ≤ m * 2 ^ i) (sym (pow-add 2 j i)) (mul-le-mul_right (2 ^ i) lead.2))
      (subst (λ (k : ℕ). m * 2 ^ i < 2 ^ k) (suc-add j i) (shl_lt (suc j) i lead.3))
      ∙ omega (arith, lead.1)

  -- the leading digit at the top
  full : m * 2 ^ z < 2 ^ 64
  full = let all : suc j + z ≡ 64 = omega (arith, lead.1) in subst (λ (k : ℕ). m * 2 ^ z < 2 ^ k) all (shl_lt (suc j) z lead.3)

  abbrev e : ℕ
  e = size_of m i % 2

  word_is : word m i ≡ m * 2 ^ (z - e)
  word_is =
      let e-le : e ≤ z = omega (arith, eleven) in
      ap (λ (a : ℕ). a / 2 ^ e) (mod-eq_of_lt full ∙ shifted m z e e-le) ∙ mul-div_cancel (m * 2 ^ (z - e)) (pow_pos e)

  -- N, as the definition has it
  pub exact : word m i * 2 ^ 42 * 4 ^ half m i ≡ m * 2 ^ i * 2 ^ 106
  exact =
      let h = half m i in
      let places : z - e + 42 + (h + h) ≡ i + 106 = omega (arith, lead.1, eleven) in
      ap (λ (a : ℕ). a * 2 ^ 42 * 4 ^ h) word_is
      ∙ ap (λ (a : ℕ). m * 2 ^ (z - e) * 2 ^ 42 * a) (four_pow h)
      ∙ ap (λ (a : ℕ). a * 2 ^ (h + h)) (gathered m (z - e) 42)
      ∙ gathered m (z - e + 42) (h + h)
      ∙ ap (λ (k : ℕ). m * 2 ^ k) places
      ∙ sym (gathered m i 106)

  least : 2 ^ 62 ≤ word m i
  least =
      let places : 62 ≤ j + (z - e) = omega (arith, lead.1, eleven) in
      subst (λ (a : ℕ). 2 ^ 62 ≤ a) (sym word_is) (le_trans (pow_mono places) (le_trans (le_of_eq (pow-add 2 j (z - e))) (mul-le-mul_right (2 ^ (z - e)) lead.2)))

  most : word m i ≤ 2 ^ 64 - 2 ^ 11
  most =
      let cut : m * 2 ^ z ≡ m * 2 ^ (z - 11) * 2 ^ 11 = shifted m z 11 eleven in
      let top : m * 2 ^ (z - 11) < 2 ^ 53 = lt_of_mul-lt-mul_right (2 ^ 11) (subst (λ (a : ℕ). a < 2 ^ 64) cut full) in
      let under : word m i ≤ m * 2 ^ z = le_trans (div-le_self (m * 2 ^ z % 2 ^ 64) (2 ^ e)) (le_of_eq (mod-eq_of_lt full)) in
      omega arith

  tail : word m i % 2 ^ 10 ≡ 0
  tail = let ten : 10 ≤ z - e = omega (arith, eleven) in omega (arith, word_is ∙ shifted m (z - e) 10 ten)

  pub normal : Normal (word m i)
  normal = record { least = least; most = most; tail = tail }

  pub units : scaled (root_near 53 (word m i * 2 ^ 42)) (half m i + 484) ≡ root_units (m * 2 ^ i)
  units =
      let n = m * 2 ^ i in
      let whole : n * 2 ^ 106 / 4 ^ half m i ≡ word m i * 2 ^ 42 = ap (λ (a : ℕ). a / 4 ^ half m i) (sym exact) ∙ mul-div_cancel (word m i * 2 ^ 42) (four_pos (half m i)) in
      sym (root_units_is n
      ∙ ap (λ (d : ℕ). scaled (root_near 53 (n * 2 ^ 106 / 4 ^ ((d + 1) / 2))) ((d + 1) / 2 + 484)) size_is
      ∙ ap (λ (a : ℕ). scaled (root_near 53 a) (half m i + 484)) whole)

  pub leaves : i < 2046 → Leaves (root_units (m * 2 ^ i)) (Scaled (word m i) (half m i + 484))
  leaves few = (normal, omega arith, units)
