-- f64 numbers that are whole numbers of a unit 1 / 2 ^ e, of fewer than 53 digits: sums, differences and products with a constant are
-- exact. Assumes nothing.
use Rattle.std.proofs.Common.{◌≡◌, ℕ, zero, suc, ◌+◌, ◌-◌, ◌*◌, ◌^◌, ◌<◌, ◌≤◌, Bool, true, false, cond, not, ◌&&◌, ltb, ℤ, pos, negsuc, ◌+ℤ◌, ◌-ℤ◌, ◌*ℤ◌, neg_ℤ, nat_abs, sym, refl, ap, ◌∙◌, true≢false, le_trans, le_refl, lt_of_lt_of_le, lt_of_le_of_lt, le_of_lt, mul-le-mul_right, mul_assoc, mul_comm, add-mul, mul-le-mul_left, mul-lt-mul_of_pos_right, mul-pos, mul-zero, mul_right_comm, le_of_mul-le-mul_right, arith, lit≤, pow_pos, pow-add, ltb-false, ltb-true}
use mathlib.Core.Bool.{beq}
use native.Mathlib.Nat.{mul-mul-mul_comm, mul-sub, eq_of_mul-eq-mul_right, pow-le-pow_right}
use lib.IntN.{neg_ℤ-+ℤ, +ℤ_assoc, +ℤ_comm, +ℤ_idl, +ℤ_invl, neg_ℤ-neg_ℤ}
use lib.Ieee.{Float, nan, inf, fin, binary64, up, down, unlike, round, neg, sum, add, sub, mul, of_int}
use lib.Ieee.Exact.{HasValue, round_exact}
use lib.Ieee.Fits.{down_pos}
use lib.Ieee.Back.{round_whole}
use Rattle.float.specs.Dyadic.{signed, Exact}

abbrev times : ℕ → ℤ → ℤ
times n z = pos n *ℤ z

-- ---- signed numbers

pub size_signed : (s : Bool) (n : ℕ) → nat_abs (signed s n) ≡ n
size_signed false n = refl
size_signed true zero = refl
size_signed true (suc n) = refl

signed_zero : (s : Bool) → signed s 0 ≡ pos 0
signed_zero false = refl
signed_zero true = refl

signed_not : (s : Bool) (n : ℕ) → signed (not s) n ≡ neg_ℤ (signed s n)
signed_not false n = refl
signed_not true n = sym (neg_ℤ-neg_ℤ (pos n))

signed_times : (s : Bool) (a n : ℕ) → signed s (a * n) ≡ times a (signed s n)
signed_times false a n = refl
signed_times true a zero = rw (mul-zero a)
signed_times true a (suc n) = refl

signed_plus : (s : Bool) (a b : ℕ) → signed s (a + b) ≡ signed s a +ℤ signed s b
signed_plus false a b = refl
signed_plus true a b = neg_ℤ-+ℤ (pos a) (pos b)

cancel : (u v : ℤ) → neg_ℤ u +ℤ (u +ℤ v) ≡ v
cancel u v = sym (+ℤ_assoc (neg_ℤ u) u v) ∙ ap (λ (k : ℤ). k +ℤ v) (+ℤ_invl u) ∙ +ℤ_idl v

-- of two signs, the sign of the greater size
signed_less : (s : Bool) (a b : ℕ) → a ≤ b → signed (not s) a +ℤ signed s b ≡ signed s (b - a)
signed_less s a b h =
    let e : b ≡ a + (b - a) = omega arith in
    ap (λ (k : ℤ). k +ℤ signed s b) (signed_not s a)
    ∙ ap (λ (n : ℕ). neg_ℤ (signed s a) +ℤ signed s n) e
    ∙ ap (λ (k : ℤ). neg_ℤ (signed s a) +ℤ k) (signed_plus s a (b - a))
    ∙ cancel (signed s a) (signed s (b - a))

signed_more : (s : Bool) (a b : ℕ) → b ≤ a → signed s a +ℤ signed (not s) b ≡ signed s (a - b)
signed_more s a b h = +ℤ_comm (signed s a) (signed (not s) b) ∙ signed_less s b a h

-- ---- rounding a whole number of the unit changes nothing

rescaled : (x : Float) (s : Bool) (num den c p : ℕ) → 0 < den → num * p ≡ c * den → HasValue x s num den → HasValue x s c p
rescaled nan s num den c p d h v = v
rescaled (inf t) s num den c p d h v = v
rescaled (fin t m e) s num den c p d h v = (
  v.0,
  eq_of_mul-eq-mul_right den d (m * up e * p) (c * down e)
      (mul_right_comm (m * up e) p den ∙ ap (λ (n : ℕ). n * p) v.1 ∙ mul_right_comm num (down e) p ∙ ap (λ (n : ℕ). n * down e) h ∙ mul_right_comm c den (down e)),
)

pub round_unit : (e : ℕ) (s : Bool) (num den c : ℕ) → e ≤ 1074 → 0 < den → c < 2 ^ 53 → num * 2 ^ e ≡ c * den → HasValue (round binary64 s num den) s c (2 ^ e)
round_unit e s num den c low d small h =
    rescaled (round binary64 s num den) s num den c (2 ^ e) d h
    (round_exact binary64 s num den c (1074 - e) d small below scaled)
  where
    whole : 2 ^ 1074 ≡ 2 ^ e * 2 ^ (1074 - e)
    whole = let k : 1074 ≡ e + (1074 - e) = omega arith in ap (λ (n : ℕ). 2 ^ n) k ∙ pow-add 2 e (1074 - e)

    below : c * 2 ^ (1074 - e) < 2 ^ 2098
    below =
        let l : 1074 - e ≤ 1074 = omega arith in
        lt_of_lt_of_le (mul-lt-mul_of_pos_right small (pow_pos (1074 - e)))
        (le_trans (mul-le-mul_left (2 ^ 53) (pow-le-pow_right (lit≤ tt) l)) (lit≤ tt))

    scaled : num * 2 ^ 1074 ≡ c * 2 ^ (1074 - e) * den
    scaled =
        ap (λ (n : ℕ). num * n) whole
        ∙ sym (mul_assoc num (2 ^ e) (2 ^ (1074 - e)))
        ∙ ap (λ (n : ℕ). n * 2 ^ (1074 - e)) h
        ∙ mul_right_comm c den (2 ^ (1074 - e))

-- ---- a sum

module _ (e den : ℕ) (low : e ≤ 1074) (d : 0 < den) where
  ordered : (A B a b : ℕ) → A * 2 ^ e ≡ a * den → B * 2 ^ e ≡ b * den → A ≤ B → a ≤ b
  ordered A B a b p q l = le_of_mul-le-mul_right (rw (← p, ← q) (mul-le-mul_right (2 ^ e) l)) d

  less : (A B a b : ℕ) → A * 2 ^ e ≡ a * den → B * 2 ^ e ≡ b * den → (B - A) * 2 ^ e ≡ (b - a) * den
  less A B a b p q =
      mul_comm (B - A) (2 ^ e)
      ∙ mul-sub (2 ^ e) B A
      ∙ rw (mul_comm (2 ^ e) B, mul_comm (2 ^ e) A, p, q, mul_comm b den, mul_comm a den) (sym (mul-sub den b a) ∙ mul_comm den (b - a))

  summed : (s t : Bool) (A B a b : ℕ) → A * 2 ^ e ≡ a * den → B * 2 ^ e ≡ b * den → a + b < 2 ^ 53 →
      Exact (sum binary64 s A t B den) (signed s a +ℤ signed t b) e (a + b)
  unfolding sum
  summed s t A B a b p q small = by s t
    where
      same : (s : Bool) → Exact (round binary64 s (A + B) den) (signed s a +ℤ signed s b) e (a + b)
      same s = record {
        sign = s;
        size = a + b;
        value = round_unit e s (A + B) den (a + b) low d small (add-mul A B (2 ^ e) ∙ rw (p, q) (sym (add-mul a b den)));
        is = signed_plus s a b;
        small = le_refl (a + b);
      }

      up_to : (s : Bool) → a ≤ b → Exact (round binary64 s (B - A) den) (signed (not s) a +ℤ signed s b) e (a + b)
      up_to s l = record {
        sign = s;
        size = b - a;
        value = round_unit e s (B - A) den (b - a) low d (omega arith) (less A B a b p q);
        is = sym (signed_less s a b l);
        small = omega arith;
      }

      down_to : (s t : Bool) → b ≤ a → signed t (a - b) ≡ signed s (a - b) → Exact (round binary64 t (A - B) den) (signed s a +ℤ signed (not s) b) e (a + b)
      down_to s t l f = record {
        sign = t;
        size = a - b;
        value = round_unit e t (A - B) den (a - b) low d (omega arith) (less B A b a q p);
        is = f ∙ sym (signed_more s a b l);
        small = omega arith;
      }

      -- nothing is left, whatever the sign
      none : (s t : Bool) → A ≤ B → B ≤ A → signed t (a - b) ≡ signed s (a - b)
      none s t l m =
          let z : a - b ≡ 0 = omega (arith, ordered A B a b p q l) in
          rw z (signed_zero t ∙ sym (signed_zero s))

      tail : (s c : Bool) → B ≤ A → ltb B A ≡ c → signed (s && c) (a - b) ≡ signed s (a - b)
      tail true true l f = refl
      tail true false l f = none true false (ltb-false B A f) l
      tail false c l f = refl

      pick : (s c : Bool) → ltb A B ≡ c →
          Exact (cond c (round binary64 (not s) (B - A) den) (round binary64 (s && ltb B A) (A - B) den)) (signed s a +ℤ signed (not s) b) e (a + b)
      pick true true f = up_to false (ordered A B a b p q (le_of_lt (ltb-true A B f)))
      pick false true f = up_to true (ordered A B a b p q (le_of_lt (ltb-true A B f)))
      pick true false f = down_to true (true && ltb B A) (ordered B A b a q p (ltb-false A B f)) (tail true (ltb B A) (ltb-false A B f) refl)
      pick false false f = down_to false (false && ltb B A) (ordered B A b a q p (ltb-false A B f)) (tail false (ltb B A) (ltb-false A B f) refl)

      by : (s t : Bool) →
          Exact (cond (beq s t) (round binary64 s (A + B) den) (cond (ltb A B) (round binary64 t (B - A) den) (round binary64 (s && ltb B A) (A - B) den))) (signed s a +ℤ signed t b) e (a + b)
      by true true = same true
      by false false = same false
      by true false = pick true (ltb A B) refl
      by false true = pick false (ltb A B) refl

-- the sizes of two numbers over their common denominator
module _ (m n a b p : ℕ) (e d : ℤ) (h : m * up e * p ≡ a * down e) (k : n * up d * p ≡ b * down d) where
  pub left : m * up e * down d * p ≡ a * (down e * down d)
  left = mul_right_comm (m * up e) (down d) p ∙ rw h (mul_assoc a (down e) (down d))

  pub right : n * up d * down e * p ≡ b * (down e * down d)
  right = mul_right_comm (n * up d) (down e) p ∙ rw k (mul_assoc b (down d) (down e) ∙ ap (λ (i : ℕ). b * i) (mul_comm (down d) (down e)))

add_values : (x y : Float) (s t : Bool) (a b e : ℕ) → HasValue x s a (2 ^ e) → HasValue y t b (2 ^ e) → e ≤ 1074 → a + b < 2 ^ 53 →
    Exact (add binary64 x y) (signed s a +ℤ signed t b) e (a + b)
unfolding add
add_values nan y s t a b e v w low small = absurd v
add_values (inf i) y s t a b e v w low small = absurd v
add_values (fin i m c) nan s t a b e v w low small = absurd w
add_values (fin i m c) (inf j) s t a b e v w low small = absurd w
add_values (fin i m c) (fin j n d) s t a b e v w low small =
    rw (← v.0, ← w.0)
    (summed e (down c * down d) low (mul-pos (down_pos c) (down_pos d)) i j _ _ a b (left m n a b (2 ^ e) c d v.1 w.1) (right m n a b (2 ^ e) c d v.1 w.1) small)

-- ---- the laws

pub size_of : {x : Float} {z : ℤ} {e b : ℕ} (v : Exact x z e b) → v.size ≡ nat_abs z
size_of v = sym (size_signed v.sign v.size) ∙ ap nat_abs v.is

pub looser : {x : Float} {z : ℤ} {e b : ℕ} (c : ℕ) → b ≤ c → Exact x z e b → Exact x z e c
looser c h v = record { sign = v.sign; size = v.size; value = v.value; is = v.is; small = le_trans v.small h }

pub add_exact : {x y : Float} {z w : ℤ} {e a b : ℕ} → e ≤ 1074 → a + b < 2 ^ 53 → Exact x z e a → Exact y w e b → Exact (add binary64 x y) (z +ℤ w) e (a + b)
add_exact {x} {y} {z} {w} {e} {a} {b} low small v u =
    let hv = v.small in
    let hu = u.small in
    rw (← v.is, ← u.is)
    (looser (a + b) (omega arith) (add_values x y v.sign u.sign v.size u.size e v.value u.value low (omega arith)))

neg_value : (y : Float) (s : Bool) (b p : ℕ) → HasValue y s b p → HasValue (neg y) (not s) b p
unfolding neg
neg_value nan s b p v = absurd v
neg_value (inf t) s b p v = absurd v
neg_value (fin t m e) s b p v = (ap not v.0, v.1)

pub sub_exact : {x y : Float} {z w : ℤ} {e a b : ℕ} → e ≤ 1074 → a + b < 2 ^ 53 → Exact x z e a → Exact y w e b → Exact (sub binary64 x y) (z -ℤ w) e (a + b)
unfolding sub
sub_exact {x} {y} {z} {w} {e} {a} {b} low small v u =
    add_exact low small v
    (record {
      sign = not u.sign;
      size = u.size;
      value = neg_value y u.sign u.size (2 ^ e) u.value;
      is = signed_not u.sign u.size ∙ ap neg_ℤ u.is;
      small = u.small;
    })

-- a product with the constant n / 2 ^ j, which is not negative
mul_values : (x y : Float) (s : Bool) (a n e j : ℕ) → HasValue x s a (2 ^ e) → HasValue y false n (2 ^ j) → e + j ≤ 1074 → n * a < 2 ^ 53 →
    HasValue (mul binary64 x y) s (n * a) (2 ^ (e + j))
unfolding mul
mul_values nan y s a n e j v w low small = absurd v
mul_values (inf t) y s a n e j v w low small = absurd v
mul_values (fin i m c) nan s a n e j v w low small = absurd w
mul_values (fin i m c) (inf t) s a n e j v w low small = absurd w
mul_values (fin i m c) (fin t k d) s a n e j v w low small = by i t v.0 w.0
  where
    over : m * up c * (k * up d) * 2 ^ (e + j) ≡ n * a * (down c * down d)
    over =
        ap (λ (p : ℕ). m * up c * (k * up d) * p) (pow-add 2 e j)
        ∙ mul-mul-mul_comm (m * up c) (k * up d) (2 ^ e) (2 ^ j)
        ∙ rw (v.1, w.1) (mul-mul-mul_comm a (down c) n (down d) ∙ ap (λ (p : ℕ). p * (down c * down d)) (mul_comm a n))

    by : (i t : Bool) → i ≡ s → t ≡ false → HasValue (round binary64 (unlike i t) (m * up c * (k * up d)) (down c * down d)) s (n * a) (2 ^ (e + j))
    by true true p q = absurd (true≢false q)
    by false true p q = absurd (true≢false q)
    by true false p q = rw (← p) (round_unit (e + j) true _ _ (n * a) low (mul-pos (down_pos c) (down_pos d)) small over)
    by false false p q = rw (← p) (round_unit (e + j) false _ _ (n * a) low (mul-pos (down_pos c) (down_pos d)) small over)

pub mul_exact : {x : Float} {z : ℤ} {e a : ℕ} (y : Float) (n j : ℕ) → HasValue y false n (2 ^ j) → e + j ≤ 1074 → n * a < 2 ^ 53 → Exact x z e a →
    Exact (mul binary64 x y) (times n z) (e + j) (n * a)
mul_exact {x} {z} {e} {a} y n j c low small v =
    let most = mul-le-mul_left n v.small in
    record {
      sign = v.sign;
      size = n * v.size;
      value = mul_values x y v.sign v.size n e j v.value c low (lt_of_le_of_lt most small);
      is = signed_times v.sign n v.size ∙ ap (times n) v.is;
      small = most;
    }

-- the same number in a finer unit
finer_value : (x : Float) (s : Bool) (a e j : ℕ) → HasValue x s a (2 ^ e) → HasValue x s (2 ^ j * a) (2 ^ (e + j))
finer_value nan s a e j v = absurd v
finer_value (inf t) s a e j v = absurd v
finer_value (fin t m c) s a e j v = (
  v.0,
  ap (λ (p : ℕ). m * up c * p) (pow-add 2 e j)
      ∙ sym (mul_assoc (m * up c) (2 ^ e) (2 ^ j))
      ∙ ap (λ (n : ℕ). n * 2 ^ j) v.1
      ∙ mul_right_comm a (down c) (2 ^ j)
      ∙ ap (λ (n : ℕ). n * down c) (mul_comm a (2 ^ j)),
)

pub finer : {x : Float} {z : ℤ} {e a : ℕ} (j : ℕ) → Exact x z e a → Exact x (times (2 ^ j) z) (e + j) (2 ^ j * a)
finer {x} {z} {e} {a} j v = record {
  sign = v.sign;
  size = 2 ^ j * v.size;
  value = finer_value x v.sign v.size e j v.value;
  is = signed_times v.sign (2 ^ j) v.size ∙ ap (times (2 ^ j)) v.is;
  small = mul-le-mul_left (2 ^ j) v.small;
}

-- a whole number
pub whole_exact : (z : ℤ) (b : ℕ) → nat_abs z ≤ b → b ≤ 2 ^ 53 → Exact (of_int binary64 z) z 0 b
unfolding of_int
whole_exact (pos n) b h most = record { sign = false; size = n; value = round_whole binary64 false n (le_trans h most); is = refl; small = h }
whole_exact (negsuc n) b h most =
    record { sign = true; size = suc n; value = round_whole binary64 true (suc n) (le_trans h most); is = refl; small = h }
