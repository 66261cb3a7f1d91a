-- What rounding adds and takes away, counted in smallest f64s: a sum, a product and a quotient of numbers that are not negative are nearly
-- what they stand for. Assumes nothing.
use Rattle.std.proofs.Common.{◌≡◌, ℕ, suc, ◌+◌, ◌*◌, ◌/◌, ◌%◌, ◌^◌, ◌<◌, ◌≤◌, Bool, true, false, cond, ◌&&◌, ◌||◌, T, eqb, ltb, ◌⊎◌, ℤ, pos, sym, ap, ◌∙◌, inl, inr, true≢false, le_of_eq, le_of_lt, mul-le-mul_right, mod-lt, mul_assoc, suc-mul, mul_comm, add-mul, eq-zero-or-pos, mul-pos, one-mul, lt_of_not-le, div-add-mod', le-div_iff_mul-le, mul-one, mul_right_comm, not-le_of_lt, le_of_mul-le-mul_right, mul_left_comm, arith, lit≤, eqb→eq, ltb→lt, pow_pos, pow-add, ltb-false, ltb-true}
use Prim.Native.Nat.{compare}
use native.Mathlib.Nat.{mul-mul-mul_comm, eq_of_mul-eq-mul_right}
use lib.Ieee.{Float, nan, inf, fin, binary64, up, down, fits, round, sum, add, mul, div, lt, le}
use lib.Ieee.Digits.{size_reaches}
use lib.Ieee.Exact.{HasValue}
use lib.Ieee.Fits.{nearest-le, up_pos, down_pos}
use lib.Ieee.Nearest.{closest, nearest-ge}
use lib.Ieee.Order.{drop, transfer}
use lib.Ieee.Scale.{grid, finite, round_same, round_val, round_under}
use lib.Ieee.Positive.{first_pos}
use Rattle.float.specs.Float.{abs_of}
use Rattle.float.proofs.Own.{itself}
use Rattle.float.proofs.Zeros.{Level, one_sign, zeros, is_zero}
use Rattle.float.proofs.Dyadic.{left, right}
use Rattle.float.proofs.NotNegative.{NotNegative, no_number, endless, number}

-- s is n / den, but for a 4096th of it and one: f64s have digits for a far smaller part, but more is not asked for, and numbers stay short
pub record Near (n den s : ℕ) : Type 0 where
  pub most : s * den * 4096 ≤ n * 4097 + den * 4096
  pub least : n * 4095 ≤ s * den * 4096 + den * 4096

-- a number rounded to a multiple of u is less than one u away
whole_near : (n u : ℕ) → 0 < u → (closest n u * u ≤ n + u) × (n ≤ closest n u * u + u)
whole_near n u p =
    let o = compare (n % u * 2) u in
    let cut : n / u * u + n % u ≡ n = div-add-mod' n u in
    let rest : n % u < u = mod-lt n p in
    let over : closest n u * u ≤ suc (n / u) * u = mul-le-mul_right u (nearest-le (n / u) o) in
    let under : n / u * u ≤ closest n u * u = mul-le-mul_right u (nearest-ge (n / u) o) in
    let next : suc (n / u) * u ≡ n / u * u + u = suc-mul (n / u) u in
    (omega arith, omega arith)

-- n / den, with the digits past the 53rd dropped: k of them
module _ (n den : ℕ) (p : 0 < den) where
  abbrev k : ℕ
  k = drop 53 n den

  abbrev c : ℕ
  c = closest n (den * 2 ^ k)

  -- the step from one number of 53 digits to the next is one, or far below n / den
  step_small : den * 2 ^ k * 4096 ≤ n + den * 4096
  step_small = by (eq-zero-or-pos k)
    where
      by : (k ≡ 0) ⊎ (0 < k) → den * 2 ^ k * 4096 ≤ n + den * 4096
      by (inl z) = rw (z, mul-one den) (omega arith)
      by (inr more) =
          let reached : 2 ^ (52 + k) ≤ n / den = size_reaches (n / den) (52 + k) (omega arith) in
          let all : 2 ^ (52 + k) * den ≤ n = (le-div_iff_mul-le p).0 reached in
          let same : 2 ^ (52 + k) * den ≡ den * 2 ^ k * 2 ^ 52 = rw (pow-add 2 52 k) (simp (mul_assoc, mul_comm, mul_left_comm)) in
          omega arith

  near_kept : Near n den (c * 2 ^ k)
  near_kept =
      let apart = whole_near n (den * 2 ^ k) (mul-pos p (pow_pos k)) in
      let step = step_small in
      let same : c * 2 ^ k * den ≡ c * (den * 2 ^ k) = simp (mul_assoc, mul_comm, mul_left_comm) in
      record { most = rw same (omega arith); least = rw same (omega arith) }

-- ---- how many smallest f64s there are in one, and from how many on a number is past all f64s. Both are shut, being too long for arithmetic
unfoldable pub grain : ℕ
grain = 2 ^ 1074

unfoldable pub top : ℕ
top = 2 ^ 2098

pub grain_pos : 0 < grain
unfolding grain
grain_pos = pow_pos 1074

pub grain_some : 100000000000000 ≤ grain
unfolding grain
grain_some = lit≤ tt

pub room : 18446744073709551616 * grain ≤ top
unfolding grain top
room = lit≤ tt

-- x is the fraction a / c
pub data Ratio : Float → ℕ → ℕ → Type 0 where
  ratio : {a c : ℕ} (m : ℕ) (e : ℤ) → 0 < c → m * up e * c ≡ a * down e → Ratio (fin false m e) a c

pub ratio_of : (x : Float) (a c : ℕ) → 0 < c → HasValue x false a c → Ratio x a c
ratio_of nan a c p v = absurd v
ratio_of (inf s) a c p v = absurd v
ratio_of (fin true m e) a c p v = absurd (true≢false v.0)
ratio_of (fin false m e) a c p v = ratio m e p v.1

-- the operations round the fraction that they stand for
add_is : {x y : Float} {a b c : ℕ} → Ratio x a c → Ratio y b c → add binary64 x y ≡ round binary64 false (a + b) c
unfolding add sum
add_is {a = a} {b} {c} (ratio m e p v) (ratio n d q w) =
    round_same binary64 false (m * up e * down d + n * up d * down e) (down e * down d) (a + b) c (mul-pos (down_pos e) (down_pos d)) p
    (add-mul (m * up e * down d) (n * up d * down e) c ∙ rw (left m n a b c e d v w, right m n a b c e d v w) (sym (add-mul a b (down e * down d))))

pub mul_is : {x y : Float} {a b c d : ℕ} → Ratio x a c → Ratio y b d → mul binary64 x y ≡ round binary64 false (a * b) (c * d)
unfolding mul
mul_is {a = a} {b} {c} {d} (ratio m e p v) (ratio n g q w) =
    round_same binary64 false (m * up e * (n * up g)) (down e * down g) (a * b) (c * d) (mul-pos (down_pos e) (down_pos g)) (mul-pos p q)
    (mul-mul-mul_comm (m * up e) (n * up g) c d ∙ rw (v, w) (mul-mul-mul_comm a (down e) b (down g)))

-- ---- x is num / M of the smallest f64s, rounded: size of them, or past all f64s
pub record Rounded (num M : ℕ) (x : Float) : Type 0 where
  pub size : ℕ
  pub near : Near num M size
  pub value : size < top → Ratio x size grain
  pub under : T (finite x) → size < top

-- the law of rounding, and without the grain where it stands in both
near_rounded : (num den : ℕ) → 0 < den → Near (num * grain) den (grid binary64 num den)
unfolding grain
near_rounded num den p = near_kept (num * 2 ^ 1074) den p

without : (s num M u : ℕ) → 0 < u → Near (num * u) (M * u) s → Near num M s
without s num M u p n =
    let size : s * (M * u) * 4096 ≡ s * M * 4096 * u = simp (mul_assoc, mul_comm, mul_left_comm) in
    let one : M * u * 4096 ≡ M * 4096 * u = mul_right_comm M u 4096 in
    let more : num * u * 4097 + M * u * 4096 ≡ (num * 4097 + M * 4096) * u = rw (mul_right_comm num u 4097, one) (sym (add-mul (num * 4097) (M * 4096) u)) in
    let less : s * (M * u) * 4096 + M * u * 4096 ≡ (s * M * 4096 + M * 4096) * u = rw (size, one) (sym (add-mul (s * M * 4096) (M * 4096) u)) in
    record {
      most = le_of_mul-le-mul_right (rw (← size, ← more) n.most) p;
      least = le_of_mul-le-mul_right (rw (← less, mul_right_comm num 4095 u) n.least) p;
    }

value_rounded : (num den : ℕ) → grid binary64 num den < top → Ratio (round binary64 false num den) (grid binary64 num den) grain
unfolding grain top
value_rounded num den h = ratio_of (round binary64 false num den) (grid binary64 num den) (2 ^ 1074) (pow_pos 1074) (round_val binary64 num den h)

under_rounded : (num den : ℕ) → T (finite (round binary64 false num den)) → grid binary64 num den < top
unfolding top
under_rounded num den h = round_under binary64 num den h

pub rounded : (num M : ℕ) → 0 < M → Rounded num M (round binary64 false num (M * grain))
rounded num M p = record {
  size = grid binary64 num (M * grain);
  near = without (grid binary64 num (M * grain)) num M grain grain_pos (near_rounded num (M * grain) (mul-pos p grain_pos));
  value = value_rounded num (M * grain);
  under = under_rounded num (M * grain);
}

pub sum_of : {x y : Float} {a b : ℕ} → Ratio x a grain → Ratio y b grain → Rounded (a + b) 1 (add binary64 x y)
sum_of {a = a} {b} p q = rw (add_is p q, ← one-mul grain) (rounded (a + b) 1 (pow_pos 0))

pub times : {c x : Float} {n M a : ℕ} → Ratio c n M → 0 < M → Ratio x a grain → Rounded (n * a) M (mul binary64 c x)
times {n = n} {M} {a} p m q = rw (mul_is p q) (rounded (n * a) M m)

-- ---- a quotient
crossed : (X Y E D a b c : ℕ) → 0 < c → X * c ≡ a * E → Y * c ≡ b * D → X * D * b ≡ a * (Y * E)
crossed X Y E D a b c p v w =
    let l : X * D * b * c ≡ X * c * (b * D) = simp (mul_assoc, mul_comm, mul_left_comm) in
    let r : a * E * (Y * c) ≡ a * (Y * E) * c = simp (mul_assoc, mul_comm, mul_left_comm) in
    eq_of_mul-eq-mul_right c p (X * D * b) (a * (Y * E)) (l ∙ ap (λ (z : ℕ). z * (b * D)) v ∙ ap (λ (z : ℕ). a * E * z) (sym w) ∙ r)

pub div_is : {x y : Float} {a b c : ℕ} → Ratio x a c → Ratio y b c → 0 < b → div binary64 x y ≡ round binary64 false a b
unfolding div
div_is {a = a} {b} {c} (ratio m e p v) (ratio n d q w) more = by (eqb n 0) (eqb→eq n 0)
  where
    some : 0 < n
    some = first_pos n (up d) (first_pos (n * up d) c (rw w (mul-pos more (down_pos d))))

    by : (t : Bool) → (T t → n ≡ 0) →
        cond t (cond (eqb m 0) nan (inf false)) (round binary64 false (m * up e * down d) (n * up d * down e)) ≡ round binary64 false a b
    by true h =
        let none : n ≡ 0 = h tt in
        absurd (omega (arith, some))
    by false h =
        round_same binary64 false (m * up e * down d) (n * up d * down e) a b (mul-pos (mul-pos some (up_pos d)) (down_pos e)) more
        (crossed (m * up e) (n * up d) (down e) (down d) a b c p v w)

-- x is d / l, rounded: size smallest f64s, or past all f64s
pub record Quotient (d l : ℕ) (x : Float) : Type 0 where
  pub size : ℕ
  pub near : Near (d * grain) l size
  pub value : size < top → Ratio x size grain

pub quotient_of : {x y : Float} {d l : ℕ} → Ratio x d grain → Ratio y l grain → 0 < l → Quotient d l (div binary64 x y)
quotient_of {d = d} {l} p q more =
    rw (div_is p q more) (record { size = grid binary64 d l; near = near_rounded d l more; value = value_rounded d l })

-- ---- any f64 is a number of smallest ones
pub record Sized (x : Float) : Type 0 where
  pub size : ℕ
  pub value : Ratio x size grain

pub sized : (m : ℕ) (e : ℤ) → T (fits binary64 (fin false m e)) → Sized (fin false m e)
sized m e f =
    let own = itself false m e f in
    let u = under_rounded (m * up e) (down e) (rw own tt) in
    rw (← own) (record { size = grid binary64 (m * up e) (down e); value = value_rounded (m * up e) (down e) u })

pub size_of : {x : Float} → NotNegative x → T (fits binary64 x) → T (finite x) → Sized x
size_of no_number f h = absurd h
size_of endless f h = absurd h
size_of (number m e) f h = sized m e f

-- ---- a comparison is one of the fractions
pub less_true : {x y : Float} {a b c d : ℕ} → Ratio x a c → Ratio y b d → lt x y ≡ true → a * d < b * c
unfolding lt
less_true {a = a} {b} {c} {d} (ratio m e p v) (ratio n g q w) h =
    lt_of_not-le (λ (k : b * c ≤ a * d).
    not-le_of_lt (ltb-true (m * up e * down g) (n * up g * down e) h) (transfer (n * up g) (m * up e) (down g) (down e) b a d c q p w v k))

pub less_false : {x y : Float} {a b c d : ℕ} → Ratio x a c → Ratio y b d → lt x y ≡ false → b * c ≤ a * d
unfolding lt
less_false {a = a} {b} {c} {d} (ratio m e p v) (ratio n g q w) h =
    transfer b a d c (n * up g) (m * up e) (down g) (down e) (down_pos g) (down_pos e) (sym w) (sym v) (ltb-false (m * up e * down g) (n * up g * down e) h)

-- ---- fractions and their order
pub at_most : (a b : ℕ) → T (ltb a b || (eqb a b && true)) → a ≤ b
at_most a b h = go (ltb a b) (eqb a b) (ltb→lt a b) (eqb→eq a b) h
  where
    go : (t u : Bool) → (T t → a < b) → (T u → a ≡ b) → T (t || (u && true)) → a ≤ b
    go true u k l h = le_of_lt (k tt)
    go false true k l h = le_of_eq (l tt)
    go false false k l h = absurd h

pub ratio_plus : {x : Float} {a c : ℕ} → Ratio x a c → NotNegative x
ratio_plus (ratio m e p v) = number m e

pub ratio_finite : {x : Float} {a c : ℕ} → Ratio x a c → T (finite x)
ratio_finite (ratio m e p v) = tt

pub same_size : {x : Float} {a b c : ℕ} → Ratio x a c → Ratio x b c → a ≡ b
same_size {a = a} {b} (ratio m e p v) (ratio _ _ q w) = eq_of_mul-eq-mul_right (down e) (down_pos e) a b (sym v ∙ w)

pub size_le_of : {x y : Float} {a b c : ℕ} → Ratio x a c → Ratio y b c → T (le x y) → a ≤ b
unfolding le
size_le_of {a = a} {b} {c} (ratio m e p v) (ratio n d q w) h =
    le_of_mul-le-mul_right
    (transfer a b c c (m * up e) (n * up d) (down e) (down d) (down_pos e) (down_pos d) (sym v) (sym w) (at_most (m * up e * down d) (n * up d * down e) h)) p

-- of two floats of one value, one not negative
pub level_ratio : {x y : Float} {a c : ℕ} → Level x y → Ratio y a c → Ratio (abs_of x) a c
unfolding abs_of
level_ratio {a = a} {c} (one_sign false m n e d same) (ratio _ _ p v) =
    ratio m e p
    (eq_of_mul-eq-mul_right (down d) (down_pos d) (m * up e * c) (a * down e)
    (mul_right_comm (m * up e) c (down d)
    ∙ ap (λ (k : ℕ). k * c) same
    ∙ mul_right_comm (n * up d) (down e) c
    ∙ ap (λ (k : ℕ). k * down e) v
    ∙ mul_right_comm a (down d) (down e)))
level_ratio (zeros (is_zero s) (is_zero false)) (ratio _ _ p v) = ratio 0 (pos 0) p v
level_ratio {a = a} {c = c} (one_sign true m n e d same) x6 = elim x6 [ ]
level_ratio {a = a} {c = c} (zeros (is_zero s) (is_zero true)) x20 = elim x20 [ ]

-- ---- what is finite has finite parts
pub add_parts : {x y : Float} → NotNegative x → NotNegative y → T (finite (add binary64 x y)) → T (finite x) × T (finite y)
unfolding add
add_parts no_number q h = absurd h
add_parts endless no_number h = absurd h
add_parts endless endless h = absurd h
add_parts endless (number n d) h = absurd h
add_parts (number m e) no_number h = absurd h
add_parts (number m e) endless h = absurd h
add_parts (number m e) (number n d) h = (tt, tt)

pub neither : (b s : Bool) → T (finite (cond b nan (inf s))) → ⊥
neither true s h = h
neither false s h = h

pub mul_parts : {c x : Float} → NotNegative c → NotNegative x → T (finite (mul binary64 c x)) → T (finite c) × T (finite x)
unfolding mul
mul_parts no_number q h = absurd h
mul_parts endless no_number h = absurd h
mul_parts endless endless h = absurd h
mul_parts endless (number n d) h = absurd (neither (eqb n 0) false h)
mul_parts (number m e) no_number h = absurd h
mul_parts (number m e) endless h = absurd (neither (eqb m 0) false h)
mul_parts (number m e) (number n d) h = (tt, tt)

-- ---- times a constant, with fewer digits
-- x is at most p ten-thousandths of v smallest f64s, and one, or past all f64s
pub record AtMost (p v : ℕ) (x : Float) : Type 0 where
  pub size : ℕ
  pub most : size * 10000 ≤ p * v + 10000
  pub value : size < top → Ratio x size grain

-- the constant n / M is at most p ten-thousandths, or at least, with a 4096th to spare
pub fewer_most : (s M n a p : ℕ) → 0 < M → n * 40970000 ≤ p * (M * 4096) → Near (n * a) M s → s * 10000 ≤ p * a + 10000
fewer_most s M n a p some c h =
    let Q = M * 4096 in
    let scaled : n * 40970000 * a ≤ p * Q * a = mul-le-mul_right a c in
    let l : s * 10000 * Q ≡ s * M * 4096 * 10000 = simp (mul_assoc, mul_comm, mul_left_comm) in
    let r : (p * a + 10000) * Q ≡ p * Q * a + Q * 10000 = rw (add-mul (p * a) 10000 Q) (simp (mul_assoc, mul_comm, mul_left_comm)) in
    let t : n * 40970000 * a ≡ n * a * 40970000 = mul_right_comm n 40970000 a in
    le_of_mul-le-mul_right (rw (l, r) (omega (arith, h.most))) (mul-pos some (pow_pos 12))

pub fewer_least : (s M n a p : ℕ) → 0 < M → p * (M * 4096) ≤ n * 40950000 → Near (n * a) M s → p * a ≤ s * 10000 + 10000
fewer_least s M n a p some c h =
    let Q = M * 4096 in
    let scaled : p * Q * a ≤ n * 40950000 * a = mul-le-mul_right a c in
    let l : p * a * Q ≡ p * Q * a = mul_right_comm p a Q in
    let r : (s * 10000 + 10000) * Q ≡ s * M * 4096 * 10000 + Q * 10000 =
    rw (add-mul (s * 10000) 10000 Q) (simp (mul_assoc, mul_comm, mul_left_comm)) in
    let t : n * 40950000 * a ≡ n * a * 40950000 = mul_right_comm n 40950000 a in
    le_of_mul-le-mul_right (rw (l, r) (omega (arith, h.least))) (mul-pos some (pow_pos 12))

pub times_most : {c x : Float} {n M v : ℕ} (p : ℕ) → Ratio c n M → 0 < M → n * 40970000 ≤ p * (M * 4096) → Ratio x v grain → AtMost p v (mul binary64 c x)
times_most {n = n} {M} {v} p c some few h =
    let r = times c some h in
    record { size = r.size; most = fewer_most r.size M n v p some few r.near; value = r.value }
