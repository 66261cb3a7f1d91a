-- `root_of x` is the f64 nearest to the root of x, said by whole-number squares, and there is never a tie. In units of the smallest f64, 2 ^ -1074, x is n and the root is the root of n * 2 ^ 1074.
-- The result is p * 2 ^ k units with a p of 53 binary digits, and half a step from it on either side are (2 * p - 1) * 2 ^ k and (2 * p + 1) * 2 ^ k halves of a unit.
-- No f64 lies within a step of it, but for the smaller steps below 2 ^ 52 * 2 ^ k, where the root does not lie. Assumes nothing.
use Rattle.std.proofs.Common.{◌≡◌, ℕ, zero, suc, ◌+◌, ◌-◌, ◌*◌, ◌/◌, ◌^◌, ◌<◌, ◌≤◌, Bool, true, false, cond, T, ltb, leb, ◌⊎◌, ℤ, sym, refl, ap, ◌∙◌, subst, inl, inr, le_trans, lt_of_lt_of_le, lt_of_le_of_lt, le_of_lt, lt_irrefl, mul-le-mul_right, zero-lt-suc, mul_assoc, mul_comm, add-mul, mul-le-mul, lt_of_mul-lt-mul_right, mul-le-mul_left, mul-lt-mul_of_pos_right, pow-suc, mul-div_cancel, sub-le, add-one, arith, pow_pos, pow_mono, pow-add, shl_lt, ltb-false, ltb-true, leb-false, leb-true}
use native.Mathlib.Nat.{mul-mul-mul_comm, eq_of_mul-eq-mul_right}
use lib.Ieee.{Float, fin, binary64, up, down, fits}
use lib.Ieee.Exact.{HasValue, odd_sign}
use lib.Ieee.Fits.{down_pos, odd-fits}
use Rattle.float.specs.Float.{root_down, root_near, root_units, root_of}
use Rattle.float.specs.Rounding.{RootIsNearest}
use Rattle.float.specs.Steps.{scaled}
use Rattle.float.proofs.Squares.{Root, root_down_lem, sq_next, sq_twice}
use Rattle.float.proofs.Fitting.{below_prec, down_in, place, in_units}
use Rattle.float.proofs.Scaled.{pow_lt_back, word, half, exact, normal, below, root_in, units, four_pow, four_pos, shifted}
use Rattle.float.proofs.Read.{root_of_is}

-- ---- of a whole number n above 0: 4 * n lies strictly between the squares of 2 * p - 1 and 2 * p + 1
abbrev Between : ℕ → ℕ → Type 0
Between n p = ((2 * p - 1) * (2 * p - 1) < 4 * n) × (4 * n < (2 * p + 1) * (2 * p + 1))

sq_odd : (q : ℕ) → (2 * q + 1) * (2 * q + 1) ≡ q * q * 4 + q * 4 + 1
sq_odd q =
    let t : 2 * q ≡ q * 2 = omega arith in
    sq_next (2 * q) ∙ ap (λ (a : ℕ). a + 2 * (2 * q) + 1) (ap (λ (a : ℕ). a * a) t ∙ sq_twice q) ∙ omega arith

down_between : (n q : ℕ) → 0 < n → Root n q → n - q * q ≤ q → Between n q
down_between n zero p r l = absurd (omega (arith, r.1))
down_between n (suc q) p r l =
    let t : 2 * q + 1 ≡ 2 * suc q - 1 = omega arith in
    let s : suc q * suc q ≡ q * q + 2 * q + 1 = ap (λ (a : ℕ). a * a) (sym (add-one q)) ∙ sq_next q in (
      subst (λ (a : ℕ). a * a < 4 * n) t (omega (arith, r.0, sq_odd q)),
      omega (arith, r.0, sq_odd (suc q)),
    )

up_between : (n q : ℕ) → Root n q → q < n - q * q → Between n (q + 1)
up_between n q r l =
    let t : 2 * q + 1 ≡ 2 * (q + 1) - 1 = omega arith in
    (subst (λ (a : ℕ). a * a < 4 * n) t (omega (arith, sq_odd q)), omega (arith, r.1, sq_odd (q + 1)))

by_test : (n q : ℕ) → 0 < n → Root n q → (b : Bool) → (b ≡ true → q < n - q * q) → (b ≡ false → n - q * q ≤ q) → Between n (cond b (q + 1) q)
by_test n q p r true f g = up_between n q r (f refl)
by_test n q p r false f g = down_between n q p r (g refl)

pub near_between : (k n : ℕ) → 0 < n → n < 4 ^ k → Between n (root_near k n)
unfolding root_near
near_between k n p h =
    let q = root_down k n in
    by_test n q p (root_down_lem k n h) (ltb q (n - q * q)) (ltb-true q (n - q * q)) (ltb-false q (n - q * q))

-- ---- of a float: half a step to either side
record Between-steps (x r : Float) : Type 0 where
  n : ℕ
  p : ℕ
  k : ℕ
  x_is : HasValue x false n (2 ^ 1074)
  r_is : HasValue r false (p * 2 ^ k) (2 ^ 1074)
  -- p has 53 digits, and the root is not below the least number of 53 digits, where a step down would be smaller
  digits : (2 ^ 52 ≤ p) × (p < 2 ^ 53)
  normal : 2 ^ 104 * 4 ^ k ≤ n * 2 ^ 1074
  above : (2 * p - 1) * (2 * p - 1) * 4 ^ k < 4 * (n * 2 ^ 1074)
  below : 4 * (n * 2 ^ 1074) < (2 * p + 1) * (2 * p + 1) * 4 ^ k
  an_f64 : T (fits binary64 r)

-- x is below 2 ^ 2098 units, so that its root, of at least 2 ^ 52 * 2 ^ k units, is far below that
scale_few : (n k : ℕ) → n < 2 ^ 2098 → 2 ^ 104 * 4 ^ k ≤ n * 2 ^ 1074 → k < 1534
scale_few n k few least =
    let is : 2 ^ 104 * 4 ^ k ≡ 2 ^ (104 + (k + k)) = ap (λ (a : ℕ). 2 ^ 104 * a) (four_pow k) ∙ sym (pow-add 2 104 (k + k)) in
    let top : n * 2 ^ 1074 < 2 ^ 3172 = mul-lt-mul_of_pos_right few (pow_pos 1074) in
    halved k (pow_lt_back (104 + (k + k)) 3172 (lt_of_le_of_lt (subst (λ (a : ℕ). a ≤ n * 2 ^ 1074) is least) top))
  where
    halved : (k : ℕ) → 104 + (k + k) < 3172 → k < 1534
    halved k h = omega arith

scaled_fits : (p k : ℕ) → p < 2 ^ 53 → k < 1534 → T (fits binary64 (scaled p k))
scaled_fits p k small few =
    let places : 53 + k ≤ 2098 = omega arith in
    odd-fits binary64 53 false p k small (le_of_lt small) (lt_of_lt_of_le (shl_lt 53 k small) (pow_mono places))

between_steps : (m : ℕ) (e : ℤ) → T (fits binary64 (fin false (suc m) e)) → Between-steps (fin false (suc m) e) (root_of (fin false (suc m) e))
between_steps m e f =
    let u = in_units false m e f in
    let i = u.j in
    let M = suc m in
    let n = M * 2 ^ i in
    let N = word M i * 2 ^ 42 in
    let p = root_near 53 N in
    let k = half M i + 484 in
    let small : M < 2 ^ 53 = below_prec false (suc m) e f in
    let is : root_of (fin false M e) ≡ scaled p k =
    root_of_is m e ∙ ap root_units (ap (λ (a : ℕ). a / down e) u.is ∙ mul-div_cancel n (down_pos e)) ∙ sym (units M i (zero-lt-suc m) small) in
    let whole : N * 4 ^ k ≡ n * 2 ^ 1074 =
    ap (λ (a : ℕ). N * a) (pow-add 4 (half M i) 484) ∙ sym (mul_assoc N (4 ^ half M i) (4 ^ 484)) ∙ ap (λ (a : ℕ). a * 4 ^ 484) (exact M i (zero-lt-suc m) small) ∙ mul_assoc n (2 ^ 106) (4 ^ 484) in
    let w = normal M i (zero-lt-suc m) small in
    let at_least : 2 ^ 104 ≤ N = omega (arith, w.least) in
    let b = near_between 53 N (omega arith) (below w) in
    let four : 4 * N * 4 ^ k ≡ 4 * (n * 2 ^ 1074) = mul_assoc 4 N (4 ^ k) ∙ ap (λ (a : ℕ). 4 * a) whole in
    let least : 2 ^ 104 * 4 ^ k ≤ n * 2 ^ 1074 = subst (λ (a : ℕ). 2 ^ 104 * 4 ^ k ≤ a) whole (mul-le-mul_right (4 ^ k) at_least) in
    record {
      n = n;
      p = p;
      k = k;
      x_is = (refl, u.is);
      r_is = subst (λ (r : Float). HasValue r false (p * 2 ^ k) (2 ^ 1074)) (sym is) (odd_sign 53 false p k 1074);
      digits = root_in w;
      normal = least;
      above = subst (λ (a : ℕ). (2 * p - 1) * (2 * p - 1) * 4 ^ k < a) four (mul-lt-mul_of_pos_right b.0 (four_pos k));
      below = subst (λ (a : ℕ). a < (2 * p + 1) * (2 * p + 1) * 4 ^ k) four (mul-lt-mul_of_pos_right b.1 (four_pos k));
      an_f64 = subst (λ (r : Float). T (fits binary64 r)) (sym is) (scaled_fits p k (root_in w).1 (scale_few n k u.few least));
    }

-- ---- of every other float
-- y is m * 2 ^ j units, with an m below 2 ^ 53
record Units (q : ℕ) : Type 0 where
  m : ℕ
  j : ℕ
  few : m < 2 ^ 53
  is : q ≡ m * 2 ^ j

units_of : (y : Float) (s : Bool) (q : ℕ) → T (fits binary64 y) → HasValue y s q (2 ^ 1074) → Units q
units_of (fin t m e) s q f v =
    let pl = place e (down_in t m e f) in
    let j = pl.0 in
    record {
      m = m;
      j = j;
      few = below_prec t m e f;
      is = eq_of_mul-eq-mul_right (down e) (down_pos e) q (m * 2 ^ j) (sym v.1 ∙ mul_assoc m (up e) (2 ^ 1074) ∙ ap (λ (a : ℕ). m * a) pl.1 ∙ sym (mul_assoc m (2 ^ j) (down e)));
    }
units_of lib.Ieee.nan s q f v = elim v [ ]
units_of (lib.Ieee.inf _) s q f v = elim v [ ]

side : (a b : ℕ) → (a ≤ b) ⊎ (b < a)
side a b = go (leb a b) (leb-true a b) (leb-false a b)
  where
    go : (c : Bool) → (c ≡ true → a ≤ b) → (c ≡ false → b < a) → (a ≤ b) ⊎ (b < a)
    go true f g = inl (f refl)
    go false f g = inr (g refl)

-- 2 ^ j is a multiple of 2 ^ k (`shifted`), or half of it at most
small : (m j k : ℕ) → m < 2 ^ 53 → j < k → m * 2 ^ j < 2 ^ 52 * 2 ^ k
small m j k h l =
    let a : m * 2 ^ j < 2 ^ 53 * 2 ^ j = mul-lt-mul_of_pos_right h (pow_pos j) in
    let b : 2 ^ 53 * 2 ^ j ≡ 2 ^ 52 * 2 ^ suc j = omega (arith, pow-suc 2 j) in
    lt_of_lt_of_le (subst (λ (c : ℕ). m * 2 ^ j < c) b a) (mul-le-mul_left (2 ^ 52) (pow_mono l))

step_up : (m j p k : ℕ) → m < 2 ^ 53 → 2 ^ 52 ≤ p → p * 2 ^ k < m * 2 ^ j → (p + 1) * 2 ^ k ≤ m * 2 ^ j
step_up m j p k few least h = by (side k j)
  where
    by : (k ≤ j) ⊎ (j < k) → (p + 1) * 2 ^ k ≤ m * 2 ^ j
    by (inl l) =
        let t = m * 2 ^ (j - k) in
        let less : p < t = lt_of_mul-lt-mul_right (2 ^ k) (subst (λ (a : ℕ). p * 2 ^ k < a) (shifted m j k l) h) in
        subst (λ (a : ℕ). (p + 1) * 2 ^ k ≤ a) (sym (shifted m j k l)) (mul-le-mul_right (2 ^ k) (omega arith))
    by (inr l) = absurd (lt_irrefl (m * 2 ^ j) (lt_of_lt_of_le (small m j k few l) (le_trans (mul-le-mul_right (2 ^ k) least) (le_of_lt h))))

-- a step down, or the smaller step where p is the least number of 53 digits
step_down : (m j p k : ℕ) → m < 2 ^ 53 → 2 ^ 52 ≤ p → m * 2 ^ j < p * 2 ^ k → (m * 2 ^ j ≤ (p - 1) * 2 ^ k) ⊎ (p ≡ 2 ^ 52)
step_down m j p k few least h = by (side k j) (side p (2 ^ 52))
  where
    by : (k ≤ j) ⊎ (j < k) → (p ≤ 2 ^ 52) ⊎ (2 ^ 52 < p) → (m * 2 ^ j ≤ (p - 1) * 2 ^ k) ⊎ (p ≡ 2 ^ 52)
    by (inl l) c =
        let t = m * 2 ^ (j - k) in
        let less : t < p = lt_of_mul-lt-mul_right (2 ^ k) (subst (λ (a : ℕ). a < p * 2 ^ k) (shifted m j k l) h) in
        inl (subst (λ (a : ℕ). a ≤ (p - 1) * 2 ^ k) (sym (shifted m j k l)) (mul-le-mul_right (2 ^ k) (omega arith)))
    by (inr l) (inl c) = inr (omega arith)
    by (inr l) (inr c) = inl (le_trans (le_of_lt (small m j k few l)) (mul-le-mul_right (2 ^ k) (omega arith)))

-- ---- squares
sq_lt : (a b : ℕ) → a < b → a * a < b * b
sq_lt a b h = lt_of_le_of_lt (mul-le-mul_left a (le_of_lt h)) (mul-lt-mul_of_pos_right h (omega arith))

sq_scaled : (a k : ℕ) → a * 2 ^ k * (a * 2 ^ k) ≡ a * a * 4 ^ k
sq_scaled a k = mul-mul-mul_comm a (2 ^ k) a (2 ^ k) ∙ ap (λ (b : ℕ). a * a * b) (sym (pow-add 2 k k) ∙ sym (four_pow k))

-- p * 2 ^ k and its neighbours, in halves of a unit
up_sum : (p k q : ℕ) → (p + 1) * 2 ^ k ≤ q → (2 * p + 1) * 2 ^ k ≤ p * 2 ^ k + q
up_sum p k q h = omega (arith, add-mul p 1 (2 ^ k), add-mul (2 * p) 1 (2 ^ k), mul_assoc 2 p (2 ^ k))

down_sum : (p k q : ℕ) → 0 < p → q ≤ (p - 1) * 2 ^ k → p * 2 ^ k + q ≤ (2 * p - 1) * 2 ^ k
down_sum (suc p) k q l h =
    let t : 2 * suc p - 1 ≡ suc p + p = omega arith in
    let u : suc p - 1 ≡ p = omega arith in
    let least : q ≤ p * 2 ^ k = subst (λ (a : ℕ). q ≤ a * 2 ^ k) u h in
    subst (λ (a : ℕ). suc p * 2 ^ k + q ≤ a * 2 ^ k) (sym t) (omega (arith, add-mul (suc p) p (2 ^ k)))
down_sum zero k q l h = elim l [ ]

module _ {x r : Float} (b : Between-steps x r) where
  abbrev P : ℕ
  P = b.p * 2 ^ b.k

  abbrev N : ℕ
  N = b.n * 2 ^ 1074

  p_pos : 0 < b.p
  p_pos = omega (arith, b.digits.0)

  square : (a c : ℕ) → a ≤ c * 2 ^ b.k → a * a ≤ c * c * 4 ^ b.k
  square a c h = subst (λ (d : ℕ). a * a ≤ d) (sq_scaled c b.k) (mul-le-mul h h)

  nearer_above : (y : Float) (q : ℕ) → T (fits binary64 y) → HasValue y false q (2 ^ 1074) → P < q → 4 * N < (P + q) * (P + q)
  nearer_above y q f v h =
      let u = units_of y false q f v in
      let next : (b.p + 1) * 2 ^ b.k ≤ q = subst (λ (a : ℕ). (b.p + 1) * 2 ^ b.k ≤ a) (sym u.is) (step_up u.m u.j b.p b.k u.few b.digits.0 (subst (λ (a : ℕ). P < a) u.is h)) in
      let half : (2 * b.p + 1) * 2 ^ b.k ≤ P + q = up_sum b.p b.k q next in
      lt_of_lt_of_le b.below (subst (λ (a : ℕ). a ≤ (P + q) * (P + q)) (sq_scaled (2 * b.p + 1) b.k) (mul-le-mul half half))

  nearer_below : (y : Float) (q : ℕ) → T (fits binary64 y) → HasValue y false q (2 ^ 1074) → q < P → (P + q) * (P + q) < 4 * N
  nearer_below y q f v h =
      let u = units_of y false q f v in
      by (step_down u.m u.j b.p b.k u.few b.digits.0 (subst (λ (a : ℕ). a < P) u.is h)) u.is
    where
      full : b.p ≡ 2 ^ 52 → 2 * P * (2 * P) ≡ 4 * (2 ^ 104 * 4 ^ b.k)
      full e = sq_twice_of P ∙ ap (λ (a : ℕ). 4 * a) (sq_scaled b.p b.k ∙ ap (λ (a : ℕ). a * a * 4 ^ b.k) e)
        where
          sq_twice_of : (a : ℕ) → 2 * a * (2 * a) ≡ 4 * (a * a)
          sq_twice_of a = let t : 2 * a ≡ a * 2 = omega arith in ap (λ (c : ℕ). c * c) t ∙ sq_twice a ∙ mul_comm (a * a) 4

      by : {c : ℕ} → (c ≤ (b.p - 1) * 2 ^ b.k) ⊎ (b.p ≡ 2 ^ 52) → q ≡ c → (P + q) * (P + q) < 4 * N
      by (inl l) e = lt_of_le_of_lt (square (P + q) (2 * b.p - 1) (down_sum b.p b.k q p_pos (subst (λ (a : ℕ). a ≤ (b.p - 1) * 2 ^ b.k) (sym e) l))) b.above
      by (inr e) z =
          let less : P + q < 2 * P = omega arith in
          lt_of_lt_of_le (sq_lt (P + q) (2 * P) less) (subst (λ (a : ℕ). a ≤ 4 * N) (sym (full e)) (mul-le-mul_left 4 b.normal))

  nearer_negative : (q : ℕ) → (P - q) * (P - q) < 4 * N
  nearer_negative q = lt_of_le_of_lt (square (P - q) (2 * b.p - 1) (le_trans (sub-le P q) (mul-le-mul_right (2 ^ b.k) (omega (arith, p_pos))))) b.above

pub root_nearest : RootIsNearest
root_nearest m e f =
    let b = between_steps m e f in
    record {
      n = b.n;
      p = b.p * 2 ^ b.k;
      x_is = b.x_is;
      r_is = b.r_is;
      an_f64 = b.an_f64;
      above = nearer_above b;
      below = nearer_below b;
      negative = λ y q g v. nearer_negative b q;
    }
