-- Numbers of a bounded size stay so: where a whole number bounds what an operation gives before it is rounded, it bounds the rounded result too, since
-- rounding keeps the order and whole numbers to 2 ^ 53 are exact. Assumes nothing.
use Prim.Native.Nat.{ℕ, zero, suc, ◌+◌, ◌-◌, ◌*◌, ◌/◌, ◌^◌, ◌≤◌, ◌<◌}
use mathlib.Core.Bool.{Bool, true, false, not, cond, beq, true≢false}
use mathlib.Core.Path.{◌≡◌, refl, sym, ap, subst}
use native.Mathlib.Nat.{le_trans, le_of_eq, zero-lt-suc, mul_assoc, mul_comm, mul-mul-mul_comm, mul-pos, add-mul, mul-le-mul, mul-le-mul_right, le_of_mul-le-mul_right, div-le_of_le-mul}
use native.Mathlib.Omega.{arith}
use borrow.Author.Tests.{ne_eqb}
use lib.Dec.{T, ltb}
use lib.IntN.{ℤ, pos}
use lib.Ieee.{Float, nan, inf, fin, binary64, up, down, unlike, round, neg, sum, add, sub, mul, div, le, to_unsigned}
use lib.Ieee.Fits.{up_pos, down_pos}
use lib.Ieee.Exact.{HasValue}
use lib.Ieee.Back.{round_whole}
use lib.Ieee.Order.{round_mono}
use Rattle.float.specs.Float.{abs_of}
use Rattle.float.proofs.Downward.{scaled}
use Rattle.float.proofs.NotNegative.{abs_round}
use Rattle.float.proofs.Nearly.{at_most}

-- finite, and of a size of at most n
pub data Within (n : ℕ) : Float → Type 0 where
  within : (s : Bool) (m : ℕ) (e : ℤ) → m * up e ≤ n * down e → Within n (fin s m e)

-- ---- from the order of floats to that of their sizes

-- z is the whole number n, and x without its sign is at most z
within_of : (x z : Float) (n : ℕ) → HasValue z false n 1 → T (le (abs_of x) z) → Within n x
unfolding le abs_of
within_of nan z n v h = absurd h
within_of (inf s) (fin t p g) n v h = absurd h
within_of (fin s m e) (fin true p g) n v h = absurd (true≢false v.0)
within_of (fin s m e) (fin false p g) n v h =
    within s m e
    (le_of_mul-le-mul_right (subst (λ (a : ℕ). m * up e * down g ≤ a) (scaled p g n e v.1) (at_most (m * up e * down g) (p * up g * down e) h)) (down_pos g))
within_of (inf s) nan n v h = elim v [ ]
within_of (inf s) (inf _) n v h = elim v [ ]
within_of (fin s m e) nan n v h = elim v [ ]
within_of (fin s m e) (inf _) n v h = elim v [ ]

-- ---- a rounded fraction

pub round_within : (s : Bool) (a c n : ℕ) → 0 < c → n ≤ 2 ^ 53 → a ≤ n * c → Within n (round binary64 s a c)
round_within s a c n C N h =
    within_of (round binary64 s a c) (round binary64 false n 1) n (round_whole binary64 false n N)
    (subst (λ (z : Float). T (le z (round binary64 false n 1))) (sym (abs_round s a c)) (round_mono binary64 a c n 1 C (zero-lt-suc 0) (omega arith)))

-- ---- the operations

pub wider : {a : ℕ} {x : Float} (b : ℕ) → a ≤ b → Within a x → Within b x
wider {a} b h (within s m e w) = within s m e (le_trans w (mul-le-mul_right (down e) h))

neg_within : {a : ℕ} {x : Float} → Within a x → Within a (neg x)
unfolding neg
neg_within (within s m e w) = within (not s) m e w

-- two sizes over their common denominator
left : (m u e d a : ℕ) → m * u ≤ a * e → m * u * d ≤ a * (e * d)
left m u e d a h = le_trans (mul-le-mul_right d h) (le_of_eq (mul_assoc a e d))

right : (m u e d a : ℕ) → m * u ≤ a * d → m * u * e ≤ a * (e * d)
right m u e d a h = le_trans (left m u d e a h) (le_of_eq (ap (λ (k : ℕ). a * k) (mul_comm d e)))

sum_within : (s t : Bool) (A B c a b : ℕ) → 0 < c → a + b ≤ 2 ^ 53 → A ≤ a * c → B ≤ b * c → Within (a + b) (sum binary64 s A t B c)
unfolding sum
sum_within s t A B c a b C N h k = either (beq s t) (by s (A + B) both) (either (ltb A B) (by t (B - A) (omega (arith, both))) (by _ (A - B) (omega (arith, both))))
  where
    either : (q : Bool) {x y : Float} → Within (a + b) x → Within (a + b) y → Within (a + b) (cond q x y)
    either true x y = x
    either false x y = y

    both : A + B ≤ (a + b) * c
    both = omega (arith, add-mul a b c)

    by : (s : Bool) (D : ℕ) → D ≤ (a + b) * c → Within (a + b) (round binary64 s D c)
    by s D l = round_within s D c (a + b) C N l

pub add_within : {a b : ℕ} {x y : Float} → Within a x → Within b y → a + b ≤ 2 ^ 53 → Within (a + b) (add binary64 x y)
unfolding add
add_within {a} {b} (within s m e h) (within t n d k) N =
    sum_within s t (m * up e * down d) (n * up d * down e) (down e * down d) a b (mul-pos (down_pos e) (down_pos d)) N (left m (up e) (down e) (down d) a h) (right n (up d) (down e) (down d) b k)

pub sub_within : {a b : ℕ} {x y : Float} → Within a x → Within b y → a + b ≤ 2 ^ 53 → Within (a + b) (sub binary64 x y)
unfolding sub
sub_within x y N = add_within x (neg_within y) N

pub mul_within : {a b : ℕ} {x y : Float} → Within a x → Within b y → a * b ≤ 2 ^ 53 → Within (a * b) (mul binary64 x y)
unfolding mul
mul_within {a} {b} (within s m e h) (within t n d k) N =
    round_within (unlike s t) (m * up e * (n * up d)) (down e * down d) (a * b) (mul-pos (down_pos e) (down_pos d)) N
    (le_trans (mul-le-mul h k) (le_of_eq (mul-mul-mul_comm a (down e) b (down d))))

-- a quotient by the whole number n
pub div_within : {a n : ℕ} {x : Float} (z : Float) → Within (a * n) x → HasValue z false n 1 → 0 < n → a ≤ 2 ^ 53 → Within a (div binary64 x z)
unfolding div
div_within {a} {n} (fin t zero g) (within s m e h) v some N = absurd (omega (arith, v.1, mul-pos some (down_pos g)))
div_within {a} {n} (fin t (suc p) g) (within s m e h) v some N =
    rw (ne_eqb (suc p) 0 (λ q. omega arith))
    (round_within (unlike s t) (m * up e * down g) (suc p * up g * down e) a (mul-pos (mul-pos (zero-lt-suc p) (up_pos g)) (down_pos e)) N
    (le_trans (left m (up e) (down e) (down g) (a * n) h) (le_of_eq (same (plain (suc p * up g) (n * down g) v.1)))))
  where
    plain : (a b : ℕ) → a * 1 ≡ b → a ≡ b
    plain a b q = omega arith

    same : suc p * up g ≡ n * down g → a * n * (down e * down g) ≡ a * (suc p * up g * down e)
    same q = rw q (simp (mul_assoc, mul_comm))
div_within {a = a} {n = n} nan _ v some N = elim v [ ]
div_within {a = a} {n = n} (inf _) _ v some N = elim v [ ]

-- 0 / 0
pub none_over_none : {x : Float} → Within 0 x → div binary64 x (fin false 0 (pos 0)) ≡ nan
unfolding div
none_over_none (within s zero e h) = refl
none_over_none (within s (suc m) e h) = absurd (omega (arith, mul-pos (zero-lt-suc m) (up_pos e)))

-- the place of a length
pub place_within : (w : ℕ) {a : ℕ} {x : Float} → Within a x → to_unsigned w x ≤ a
unfolding to_unsigned
place_within w {a} (within true m e h) = omega arith
place_within w {a} (within false m e h) =
    let cut : m * up e / down e ≤ a = div-le_of_le-mul (down e) (le_trans h (le_of_eq (mul_comm a (down e)))) in
    omega arith
