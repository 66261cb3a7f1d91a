-- `strays`: differences modulo 2 ^ 64 that are small have not wrapped, and together they say how far n * 2 ^ 52 is from p * p. Assumes nothing.
use Rattle.std.proofs.Common.{◌≡◌, ℕ, zero, suc, ◌+◌, ◌-◌, ◌*◌, ◌/◌, ◌%◌, ◌^◌, ◌<◌, ◌≤◌, Bool, true, false, leb, refl, ap, ◌∙◌, subst, mul_assoc, mul_comm, add-mul, mul-le-mul, mul-add, mul_right_comm, mul_left_comm, arith, shl_lt, leb-false, leb-true}
use Rattle.float.specs.Float.{root_near}
use Rattle.float.proofs.Squares.{sq_next, near_up, near_down}

-- ---- p is the nearest root of an N above p * p - p and not above p * p + p
near : (N p f : ℕ) → N < 4 ^ 53 → N + p ≡ p * p + f + 1 → f + 1 ≤ p + p → p ≡ root_near 53 N
near N zero f b sum most = absurd (omega arith)
near N (suc q) f b sum most = go (leb (q + 1) (f + 1)) (leb-true (q + 1) (f + 1)) (leb-false (q + 1) (f + 1))
  where
    next : suc q ≡ q + 1
    next = omega arith

    from : N + (q + 1) ≡ (q + 1) * (q + 1) + f + 1
    from = subst (λ (p : ℕ). N + p ≡ p * p + f + 1) next sum

    go : (t : Bool) → (t ≡ true → q + 1 ≤ f + 1) → (t ≡ false → f + 1 < q + 1) → suc q ≡ root_near 53 N
    go true u v =
        let ge : q + 1 ≤ f + 1 = u refl in
        let few : f + 1 - (q + 1) ≤ q + 1 = omega arith in
        next ∙ near_down 53 b (record { sum = omega (arith, from); within = omega arith }) few
    go false u v =
        let less : f + 1 < q + 1 = v refl in
        let many : q < q + f + 1 = omega arith in
        next ∙ near_up 53 b (record { sum = omega (arith, from, sq_next q); within = omega arith }) many

-- ---- the square of p in parts
parts : (a c b : ℕ) → (a * b + c) * (a * b + c) ≡ a * a * (b * b) + (a * c * b + a * c * b) + c * c
parts a c b =
    let x = a * b in
    let squares : a * a * (b * b) ≡ x * x = simp (mul_assoc, mul_left_comm) in
    let products : x * c ≡ a * c * b = mul_right_comm a b c in
    let left : (x + c) * x ≡ x * x + x * c = add-mul x c x ∙ ap (λ (k : ℕ). x * x + k) (mul_comm c x) in
    let whole : (x + c) * (x + c) ≡ (x + c) * x + (x + c) * c = mul-add (x + c) x c in
    let right : (x + c) * c ≡ x * c + c * c = add-mul x c c in
    omega arith

square_of : (p : ℕ) → p * p ≡ p / 2 ^ 26 * (p / 2 ^ 26) * 2 ^ 52 + p / 2 ^ 26 * (p % 2 ^ 26) * 2 * 2 ^ 26 + p % 2 ^ 26 * (p % 2 ^ 26)
square_of p =
    let split : p ≡ p / 2 ^ 26 * 2 ^ 26 + p % 2 ^ 26 = omega arith in
    ap (λ (k : ℕ). k * k) split ∙ parts (p / 2 ^ 26) (p % 2 ^ 26) (2 ^ 26) ∙ omega arith

module _ (p : ℕ) (small : p < 2 ^ 53) where
  abbrev a : ℕ
  a = p / 2 ^ 26

  abbrev c : ℕ
  c = p % 2 ^ 26

  a_le : a ≤ 2 ^ 27
  a_le = omega arith

  c_le : c ≤ 2 ^ 26
  c_le = omega arith

  pub aa_le : a * a ≤ 2 ^ 54
  aa_le = mul-le-mul a_le a_le

  pub ac_le : a * c ≤ 2 ^ 53
  ac_le = mul-le-mul a_le c_le

  pub cc_le : c * c ≤ 2 ^ 52
  cc_le = mul-le-mul c_le c_le

  -- what the four differences are, where they are small
  module _ (n d e f g : ℕ) (few : n < 2 ^ 54) (least : 2 ^ 52 ≤ p) (d-lt : d < 2 ^ 32) (e-lt : e < 2 ^ 32) (f_lt : f < 2 ^ 63) (g-lt : g < 2 ^ 63)
      (D : (d + a * a) % 2 ^ 64 ≡ n + 16) (E : (e + a * c * 2) % 2 ^ 64 ≡ d * 2 ^ 26 % 2 ^ 64)
      (F : (f + (c * c + (2 ^ 56 + 1 - p))) % 2 ^ 64 ≡ e * 2 ^ 26 % 2 ^ 64) (G : (g + f) % 2 ^ 64 ≡ p + p - 1) where
    first : d + a * a ≡ n + 16
    first = omega (arith, aa_le)

    second : e + a * c * 2 ≡ d * 2 ^ 26
    second = omega (arith, ac_le)

    third : f + c * c + (2 ^ 56 + 1) ≡ e * 2 ^ 26 + p
    third = omega (arith, cc_le)

    most : f + 1 ≤ p + p
    most = omega arith

    sum : n * 2 ^ 52 + p ≡ p * p + f + 1
    sum = omega (arith, first, second, third, square_of p)

    pub nearest : p ≡ root_near 53 (n * 2 ^ 52)
    nearest = near (n * 2 ^ 52) p f (shl_lt 54 52 few) sum most
