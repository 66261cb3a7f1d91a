-- The square of a root is nearly the number itself: three millionths away at most. Assumes nothing.
use Rattle.std.proofs.Common.{◌≡◌, ℕ, ◌+◌, ◌-◌, ◌*◌, ◌/◌, ◌^◌, ◌<◌, ◌≤◌, Bool, true, false, cond, ltb, sym, ap, ◌∙◌, subst, le_trans, le_refl, lt_of_lt_of_le, mul-le-mul_right, mul_assoc, mul_comm, div-lt_iff_lt-mul, mul-le-mul, mul-le-mul_left, mul-lt-mul_of_pos_right, lt_of_not-le, le-div_iff_mul-le, not-le_of_lt, arith, lit≤, pow_pos, pow_mono, pow-add}
use native.Mathlib.Nat.{mul-mul-mul_comm}
use lib.Ieee.{size, odd}
use lib.Ieee.Digits.{size-lt, size_reaches}
use lib.Ieee.Exact.{HasValue, odd_sign}
use Rattle.float.specs.Float.{root_down, root_near, root_units}
use Rattle.float.proofs.Squares.{Root, root_down_lem, sq_next}
use Rattle.float.proofs.Scaled.{four_pow, four_pos}

-- ---- the nearest whole number r to the root of N, where the root rounded down is q
near : (N q r : ℕ) → Root N q → 1048576 ≤ q → q ≤ r → r ≤ q + 1 → (r * r * 1048576 ≤ 1048579 * N) × ((N + 1) * 1048576 ≤ 1048579 * (r * r))
near N q r root many low high =
    let far : 1048576 * q ≤ q * q = mul-le-mul_right q many in
    let less : q * q ≤ r * r = mul-le-mul low low in
    let more : r * r ≤ (q + 1) * (q + 1) = mul-le-mul high high in
    (omega (arith, root.0, sq_next q), omega (arith, root.1, sq_next q))

near_in : (k n : ℕ) → (root_down k n ≤ root_near k n) × (root_near k n ≤ root_down k n + 1)
unfolding root_near
near_in k n = by (root_down k n) (ltb (root_down k n) _)
  where
    by : (q : ℕ) (b : Bool) → (q ≤ cond b (q + 1) q) × (cond b (q + 1) q ≤ q + 1)
    by q true = (omega arith, omega arith)
    by q false = (omega arith, omega arith)

-- ---- the root of n smallest f64s, p * 2 ^ 484 of them: p * p is nearly n * 2 ^ 106
pub record NearRoot (n : ℕ) : Type 0 where
  pub p : ℕ
  pub value : HasValue (root_units n) false (p * 2 ^ 484) (2 ^ 1074)
  pub most : p * p * 1048576 ≤ 1048579 * (n * 2 ^ 106)
  pub least : n * 2 ^ 106 * 1048576 ≤ 1048579 * (p * p)

module _ (n : ℕ) (some : 0 < n) where
  abbrev h : ℕ
  h = (size n + 1) / 2

  abbrev N : ℕ
  N = n * 2 ^ 106 / 4 ^ h

  abbrev r : ℕ
  r = root_near 53 N

  -- N has 105 or 106 binary digits
  N-under : N < 4 ^ 53
  N-under =
      let twice : size n ≤ h + h = omega arith in
      let under : n < 4 ^ h = rw (four_pow h) (lt_of_lt_of_le (size-lt n) (pow_mono twice)) in
      (div-lt_iff_lt-mul (four_pos h)).1 (rw (mul_comm (4 ^ 53) (4 ^ h)) (mul-lt-mul_of_pos_right under (pow_pos 106)))

  N-over : 2 ^ 104 ≤ N
  N-over =
      let digits : 0 < size n = lt_of_not-le (λ (g : size n ≤ 0). not-le_of_lt (size-lt n) (le_trans (pow_mono g) some)) in
      let reached : 2 ^ (size n - 1) ≤ n = size_reaches n (size n - 1) (omega arith) in
      let twice : h + h ≤ size n - 1 + 2 = omega arith in
      let over : 4 ^ h ≤ 4 * n = rw (four_pow h) (le_trans (pow_mono twice) (rw (pow-add 2 (size n - 1) 2) (omega arith))) in
      (le-div_iff_mul-le (four_pos h)).1 (le_trans (mul-le-mul_left (2 ^ 104) over) (omega arith))

  root : Root N (root_down 53 N)
  root = root_down_lem 53 N N-under

  many : 1048576 ≤ root_down 53 N
  many =
      let more : 1048576 < root_down 53 N + 1 =
      lt_of_not-le (λ (g : root_down 53 N + 1 ≤ 1048576). not-le_of_lt root.1 (le_trans (mul-le-mul g g) (le_trans (lit≤ tt) N-over))) in
      omega arith

  pub near_root : NearRoot n
  unfolding root_units
  near_root =
      let s : r * 2 ^ h * (r * 2 ^ h) ≡ r * r * 4 ^ h = mul-mul-mul_comm r (2 ^ h) r (2 ^ h) ∙ ap (λ (a : ℕ). r * r * a) (sym (pow-add 2 h h) ∙ sym (four_pow h)) in
      let q = near N (root_down 53 N) r root many (near_in 53 N).0 (near_in 53 N).1 in
      let b = whole N (n * 2 ^ 106) (r * r) (4 ^ h) ((le-div_iff_mul-le (four_pos h)).0 (le_refl N)) ((div-lt_iff_lt-mul (four_pos h)).0 (omega arith)) q in
      let v : r * 2 ^ (h + 484) ≡ r * 2 ^ h * 2 ^ 484 = ap (λ (a : ℕ). r * a) (pow-add 2 h 484) ∙ sym (mul_assoc r (2 ^ h) (2 ^ 484)) in
      record {
        p = r * 2 ^ h;
        value = subst (λ (a : ℕ). HasValue (odd 53 false r (h + 484) 1074) false a (2 ^ 1074)) v (odd_sign 53 false r (h + 484) 1074);
        most = rw s b.0;
        least = rw s b.1;
      }
    where
      whole : (N P s F : ℕ) → N * F ≤ P → P < (N + 1) * F → (s * 1048576 ≤ 1048579 * N) × ((N + 1) * 1048576 ≤ 1048579 * s) →
          (s * F * 1048576 ≤ 1048579 * P) × (P * 1048576 ≤ 1048579 * (s * F))
      whole N P s F low high q =
          let a : s * 1048576 * F ≤ 1048579 * N * F = mul-le-mul_right F q.0 in
          let b : (N + 1) * 1048576 * F ≤ 1048579 * s * F = mul-le-mul_right F q.1 in
          let c : (N + 1) * 1048576 * F ≡ (N + 1) * F * 1048576 = turn (N + 1) F in
          let d : s * 1048576 * F ≡ s * F * 1048576 = turn s F in
          let e : 1048579 * N * F ≡ 1048579 * (N * F) = mul_assoc 1048579 N F in
          let g : 1048579 * s * F ≡ 1048579 * (s * F) = mul_assoc 1048579 s F in
          (omega arith, omega arith)
        where
          turn : (a F : ℕ) → a * 1048576 * F ≡ a * F * 1048576
          turn a F = mul_assoc a 1048576 F ∙ ap (λ (k : ℕ). a * k) (mul_comm 1048576 F) ∙ sym (mul_assoc a F 1048576)
