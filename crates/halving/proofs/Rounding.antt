-- Rounding a whole number of a unit, halves away from zero, in f64; and bringing that into 16 bits. Assumes nothing.
use Prim.Native.Nat.{ℕ, zero, suc, ◌+◌, ◌*◌, ◌/◌, ◌^◌, ◌≤◌, ◌<◌, min}
use mathlib.Core.Bool.{Bool, true, false, not, ◌&&◌, false≢true}
use mathlib.Core.Path.{◌≡◌, refl, sym, ap, ◌∙◌}
use native.Mathlib.Nat.{mul-one, mul_assoc, mul_comm, add-mul, mul-div-mul_right, mul-div_cancel, div-eq_of_lt, div-le_of_le-mul, mul-le-mul_right, le_of_mul-le-mul_right, lt_of_mul-lt-mul_right, mul-lt-mul_of_pos_right, min-eq_left, min-eq_right}
use native.Mathlib.Omega.{arith}
use borrow.Author.Tests.{ltb-true, ltb-false, lt-ltb, le-ltb}
use lib.Dec.{ltb}
use lib.Pow.{pow_pos}
use lib.IntN.{ℤ, pos, negsuc, neg_ℤ}
use lib.Ieee.{Float, nan, inf, fin, binary64, up, down, lt, to_signed}
use lib.Ieee.Exact.{HasValue}
use lib.Ieee.Fits.{down_pos}
use lib.Ieee.Back.{round_whole}
use Rattle.float.specs.Float.{whole_by, round_of}
use Rattle.float.proofs.Exact.{twice}
use Rattle.halving.specs.Cubic.{near, nearest, outside}
use Rattle.float.specs.Dyadic.{signed, Exact}
use Rattle.halving.specs.Exact.{Roomy, cut_to, Brought}

-- ---- comparing and dividing numbers over two denominators

pub ltb_cross : (A B a b p q : ℕ) → 0 < p → 0 < q → A * p ≡ a * q → B * p ≡ b * q → ltb A B ≡ ltb a b
ltb_cross A B a b p q hp hq h k = by (ltb a b) refl
  where
    by : (c : Bool) → ltb a b ≡ c → ltb A B ≡ c
    by true e = lt-ltb A B (lt_of_mul-lt-mul_right p (rw (h, k) (mul-lt-mul_of_pos_right (ltb-true a b e) hq)))
    by false e = le-ltb A B (le_of_mul-le-mul_right (rw (h, k) (mul-le-mul_right q (ltb-false a b e))) hp)

div_cross : (X Y x y : ℕ) → 0 < Y → 0 < y → X * y ≡ x * Y → X / Y ≡ x / y
div_cross X Y x y hY hy h =
    sym (mul-div-mul_right X Y hy) ∙ ap (λ (n : ℕ). n / (Y * y)) h ∙ ap (λ (n : ℕ). x * Y / n) (mul_comm Y y) ∙ mul-div-mul_right x y hY

-- ---- the nearest whole number

near_cross : (m n d u : ℕ) → 0 < d → 0 < u → m * u ≡ n * d → (2 * m + d) / (2 * d) ≡ near u n
near_cross m n d u hd hu h = div_cross (2 * m + d) (2 * d) (2 * n + u) (2 * u) (omega arith) (omega arith) even
  where
    spread : (a b c : ℕ) → (2 * a + b) * (2 * c) ≡ 2 * (2 * (a * c) + b * c)
    spread a b c =
        twice (2 * a + b) c ∙ ap (λ (k : ℕ). 2 * k) (add-mul (2 * a) b c) ∙ ap (λ (k : ℕ). 2 * (k + b * c)) (mul_assoc 2 a c)

    even : (2 * m + d) * (2 * u) ≡ (2 * n + u) * (2 * d)
    even = spread m d u ∙ rw (h, mul_comm d u) (sym (spread n u d))

near_zero : (u : ℕ) → 0 < u → near u 0 ≡ 0
near_zero u h = div-eq_of_lt (omega arith)

near_most : (u n b : ℕ) → 0 < u → n ≤ b → near u n ≤ b + 1
near_most u n b h l = div-le_of_le-mul (2 * u) (omega (arith, mul-le-mul_right u l, twice u b, one u b h))
  where
    one : (u b : ℕ) → 0 < u → b ≤ b * u
    one u b h = rw mul-one at (native.Mathlib.Nat.mul-le-mul_left b h)

    twice : (u b : ℕ) → 2 * u * (b + 1) ≡ 2 * (b * u) + 2 * u
    twice u b = native.Mathlib.Nat.mul-add (2 * u) b 1 ∙ rw (mul-one (2 * u), mul_assoc 2 u b, mul_comm u b)

nearest_signed : (e : ℕ) (s : Bool) (n : ℕ) → nearest e (signed s n) ≡ signed s (near (2 ^ e) n)
nearest_signed e false n = refl
nearest_signed e true zero = rw (near_zero (2 ^ e) (pow_pos e))
nearest_signed e true (suc n) = refl

round_near : (x : Float) (s : Bool) (n e b : ℕ) → HasValue x s n (2 ^ e) → n ≤ b → b ≤ 2 ^ 40 → HasValue (round_of x) s (near (2 ^ e) n) 1
unfolding whole_by
round_near nan s n e b v h l = absurd v
round_near (inf t) s n e b v h l = absurd v
round_near (fin t m c) s n e b v h l =
    rw (near_cross (m * up c) n (down c) (2 ^ e) (down_pos c) (pow_pos e) v.1, v.0)
    (round_whole binary64 s (near (2 ^ e) n) (omega (arith, near_most (2 ^ e) n b (pow_pos e) h)))

-- ---- 16 bits

lt_low : (r : Float) (s : Bool) (c : ℕ) → HasValue r s c 1 → lt r (fin true 1 (pos 15)) ≡ (s && ltb 32768 c)
unfolding lt
lt_low nan s c v = absurd v
lt_low (inf t) s c v = absurd v
lt_low (fin true m e) s c v = rw (← v.0) (ltb_cross (1 * 2 ^ 15 * down e) (m * up e * 1) 32768 c 1 (down e) (omega arith) (down_pos e) (omega arith) (mul-one (m * up e * 1) ∙ v.1))
lt_low (fin false m e) s c v = rw (← v.0)

lt_high : (r : Float) (s : Bool) (c : ℕ) → HasValue r s c 1 → lt (fin false 32767 (pos 0)) r ≡ (not s && ltb 32767 c)
unfolding lt
lt_high nan s c v = absurd v
lt_high (inf t) s c v = absurd v
lt_high (fin true m e) s c v = rw (← v.0)
lt_high (fin false m e) s c v = rw (← v.0) (ltb_cross (32767 * 2 ^ 0 * down e) (m * up e * 1) 32767 c 1 (down e) (omega arith) (down_pos e) (omega arith) (mul-one (m * up e * 1) ∙ v.1))

cut_value : (m e : ℕ) (d : ℕ) (c : ℕ) → 0 < d → m * e * 1 ≡ c * d → m * e / d ≡ c
cut_value m e d c h v = ap (λ (n : ℕ). n / d) (sym (mul-one (m * e)) ∙ v) ∙ mul-div_cancel c h

cut_negative : (c : ℕ) → neg_ℤ (pos (min c (2 ^ 15))) ≡ cut_to (neg_ℤ (pos c))
cut_negative zero = rw (min-eq_left {n = 0} {m = 2 ^ 15} (omega arith), min-eq_left {n = 0} {m = 32767} (omega arith))
cut_negative (suc k) = by (ltb 32767 k) refl
  where
    by : (t : Bool) → ltb 32767 k ≡ t → neg_ℤ (pos (min (suc k) (2 ^ 15))) ≡ negsuc (min k 32767)
    by true e =
        let h = ltb-true 32767 k e in
        rw (min-eq_right {n = 2 ^ 15} {m = suc k} (omega arith), min-eq_right {n = 32767} {m = k} (omega arith))
    by false e =
        let h = ltb-false 32767 k e in
        rw (min-eq_left {n = suc k} {m = 2 ^ 15} (omega arith), min-eq_left {n = k} {m = 32767} (omega arith))

cut_signed : (r : Float) (s : Bool) (c : ℕ) → HasValue r s c 1 → to_signed 15 r ≡ cut_to (signed s c)
unfolding to_signed
cut_signed nan s c v = absurd v
cut_signed (inf t) s c v = absurd v
cut_signed (fin true m e) s c v = rw (← v.0, cut_value m (up e) (down e) c (down_pos e) v.1) (cut_negative c)
cut_signed (fin false m e) s c v = rw (← v.0, cut_value m (up e) (down e) c (down_pos e) v.1)

-- below
far_low : (s : Bool) (c : ℕ) → (s && ltb 32768 c) ≡ true → true ≡ outside (signed s c)
far_low true zero h = absurd (let l = ltb-true 32768 0 h in omega arith)
far_low true (suc k) h = sym (lt-ltb 32767 k (let l = ltb-true 32768 (suc k) h in omega arith))
far_low false c h = absurd (false≢true h)

-- not below: then above, or not
far_high : (s : Bool) (c : ℕ) → (s && ltb 32768 c) ≡ false → (not s && ltb 32767 c) ≡ outside (signed s c)
far_high true zero h = refl
far_high true (suc k) h = sym (le-ltb 32767 k (let l = ltb-false 32768 (suc k) h in omega arith))
far_high false c h = refl

-- ---- the function

module _ {x : Float} {z : ℤ} {e b : ℕ} (room : Roomy e b) (v : Exact x z e b) where
  value : HasValue (round_of x) v.sign (near (2 ^ e) v.size) 1
  value = round_near x v.sign v.size e b v.value v.small room.few

  is : signed v.sign (near (2 ^ e) v.size) ≡ nearest e z
  is = sym (nearest_signed e v.sign v.size) ∙ ap (nearest e) v.is

  pub brought_low : lt (round_of x) (fin true 1 (pos 15)) ≡ true → Brought (nearest e z) (record { value = to_signed 15 (round_of x); far = true })
  brought_low h = record {
    far = far_low v.sign (near (2 ^ e) v.size) (sym (lt_low (round_of x) _ _ value) ∙ h) ∙ ap outside is;
    value = cut_signed (round_of x) _ _ value ∙ ap cut_to is;
  }

  pub brought_high : lt (round_of x) (fin true 1 (pos 15)) ≡ false →
      Brought (nearest e z) (record { value = to_signed 15 (round_of x); far = lt (fin false 32767 (pos 0)) (round_of x) })
  brought_high h = record {
    far = lt_high (round_of x) _ _ value ∙ far_high v.sign (near (2 ^ e) v.size) (sym (lt_low (round_of x) _ _ value) ∙ h) ∙ ap outside is;
    value = cut_signed (round_of x) _ _ value ∙ ap cut_to is;
  }
