-- What the operations make of zeros, of a NaN, and of two floats of one value. Assumes nothing.
use Rattle.std.proofs.Common.{◌≡◌, ℕ, zero, suc, ◌+◌, ◌-◌, ◌*◌, ◌<◌, Bool, true, false, cond, not, T, eqb, ltb, ℤ, pos, sym, refl, ◌∙◌, subst, zero-lt-suc, mul-pos, mul-zero, mul-one, arith, eqb→eq, le-ltb, lt-ltb}
use mathlib.Core.Bool.{false≢true}
use lib.Ieee.{Float, nan, inf, fin, binary64, up, down, unlike, fits, round, neg, sum, add, sub, mul, div, eq, of_bits}
use lib.Ieee.Fits.{and_l, up_pos, down_pos}
use lib.Ieee.Exact.{HasValue}
use lib.Ieee.Back.{whole_unique}
use lib.Ieee.Scale.{finite, round_same}
use Rattle.float.specs.Float.{root_of}
use Rattle.float.specs.Numbers.{nought}
use Rattle.float.proofs.Own.{own_value}

-- ---- a NaN stays

pub plus_nan : (x : Float) → add binary64 x nan ≡ nan
unfolding add
plus_nan nan = refl
plus_nan (inf s) = refl
plus_nan (fin s m e) = refl

pub nan_plus : (x : Float) → add binary64 nan x ≡ nan
unfolding add
nan_plus x = refl

pub times_nan : (x : Float) → mul binary64 x nan ≡ nan
unfolding mul
times_nan nan = refl
times_nan (inf s) = refl
times_nan (fin s m e) = refl

-- ---- a zero, of either sign

pub data IsZero : Float → Type 0 where
  is_zero : (s : Bool) → IsZero (fin s 0 (pos 0))

-- what equals 0
pub is_nought : (x : Float) → T (fits binary64 x) → eq x nought ≡ true → IsZero x
unfolding eq of_bits fits
is_nought nan f h = absurd (false≢true h)
is_nought (inf s) f h = absurd (false≢true h)
is_nought (fin s m e) f h =
    let none : m * up e * 1 ≡ 0 * down e = eqb→eq (m * up e * 1) (0 * down e) (and_l (eqb (m * up e * 1) (0 * down e)) _ (subst T (sym h) tt)) in
    subst IsZero (whole_unique binary64 (fin s 0 (pos 0)) (fin s m e) s 0 tt f (refl, refl) (refl, none)) (is_zero s)

-- a zero that fits is written with the exponent 0
zero_fits : (s : Bool) (e : ℤ) → T (fits binary64 (fin s 0 e)) → IsZero (fin s 0 e)
unfolding fits
zero_fits s e f = subst IsZero (whole_unique binary64 (fin s 0 (pos 0)) (fin s 0 e) s 0 tt f (refl, refl) (refl, omega arith)) (is_zero s)

round_zero : (s : Bool) (a c : ℕ) → a ≡ 0 → 0 < c → IsZero (round binary64 s a c)
round_zero s a c z p = subst IsZero (sym (round_same binary64 s a c 0 1 p (zero-lt-suc 0) (omega arith))) (unfold round in is_zero s)

pub minus_zero : {x : Float} → IsZero x → IsZero (neg x)
unfolding neg
minus_zero (is_zero s) = is_zero (not s)

pub zeros_add : {x y : Float} → IsZero x → IsZero y → IsZero (add binary64 x y)
unfolding add
zeros_add (is_zero true) (is_zero true) = round_zero true 0 1 refl (zero-lt-suc 0)
zeros_add (is_zero true) (is_zero false) = round_zero false 0 1 refl (zero-lt-suc 0)
zeros_add (is_zero false) (is_zero true) = round_zero false 0 1 refl (zero-lt-suc 0)
zeros_add (is_zero false) (is_zero false) = round_zero false 0 1 refl (zero-lt-suc 0)

pub zeros_sub : {x y : Float} → IsZero x → IsZero y → IsZero (sub binary64 x y)
unfolding sub
zeros_sub a b = zeros_add a (minus_zero b)

pub times_zero : (x : Float) {z : Float} → T (finite x) → IsZero z → IsZero (mul binary64 x z)
unfolding mul
times_zero (fin s m e) t (is_zero u) = round_zero (unlike s u) (m * up e * 0) (down e * 1) (mul-zero (m * up e)) (mul-pos (down_pos e) (zero-lt-suc 0))
times_zero nan {z = z} t _ = elim t [ ]
times_zero (inf _) {z = z} t _ = elim t [ ]

pub zero_finite : {x : Float} → IsZero x → T (finite x)
zero_finite (is_zero s) = tt

pub root_zero : {x : Float} → IsZero x → IsZero (root_of x)
unfolding root_of
root_zero (is_zero s) = is_zero _

-- ---- a zero or a NaN, as the product of any float with a zero is

pub data IsBlank : Float → Type 0 where
  blank : {x : Float} → IsZero x → IsBlank x
  blank_nan : IsBlank nan

pub any_times_zero : (x : Float) {z : Float} → IsZero z → IsBlank (mul binary64 x z)
any_times_zero nan (is_zero u) = unfold mul in blank_nan
any_times_zero (inf s) (is_zero u) = unfold mul in blank_nan
any_times_zero (fin s m e) z = blank (times_zero (fin s m e) tt z)

pub blanks_sub : {x y : Float} → IsBlank x → IsBlank y → IsBlank (sub binary64 x y)
blanks_sub (blank a) (blank b) = blank (zeros_sub a b)
blanks_sub {x} (blank a) blank_nan = unfold sub in rw (plus_nan x) blank_nan
blanks_sub blank_nan b = unfold sub in blank_nan

pub blanks_mul : {x y : Float} → IsBlank x → IsBlank y → IsBlank (mul binary64 x y)
blanks_mul {x} (blank a) (blank b) = blank (times_zero x (zero_finite a) b)
blanks_mul {x} (blank a) blank_nan = rw (times_nan x) blank_nan
blanks_mul blank_nan b = unfold mul in blank_nan

-- 0 / 0
pub blank_over_zero : {x y : Float} → IsBlank x → IsZero y → div binary64 x y ≡ nan
unfolding div
blank_over_zero (blank (is_zero s)) (is_zero t) = refl
blank_over_zero blank_nan z = refl

-- ---- finite floats of one value: zeros may differ in their signs

pub data Level : Float → Float → Type 0 where
  one_sign : (s : Bool) (m n : ℕ) (e d : ℤ) → m * up e * down d ≡ n * up d * down e → Level (fin s m e) (fin s n d)
  zeros : {x y : Float} → IsZero x → IsZero y → Level x y

pub level_self : (x : Float) → T (finite x) → Level x x
level_self (fin s m e) t = one_sign s m m e e refl
level_self nan t = elim t [ ]
level_self (inf _) t = elim t [ ]

pub level_back : {x y : Float} → Level x y → Level y x
level_back (one_sign s m n e d h) = one_sign s n m d e (sym h)
level_back (zeros a b) = zeros b a

-- their difference
differ : (s : Bool) (a b c : ℕ) → a ≡ b → 0 < c → IsZero (sum binary64 s a (not s) b c)
unfolding sum
differ s a b c h p = by s
  where
    either : (b : Bool) {x y : Float} → IsZero x → IsZero y → IsZero (cond b x y)
    either true p q = p
    either false p q = q

    none : (s : Bool) → IsZero (round binary64 s (b - a) c)
    none s = round_zero s (b - a) c (omega arith) p

    nothing : (s : Bool) → IsZero (round binary64 s (a - b) c)
    nothing s = round_zero s (a - b) c (omega arith) p

    by : (s : Bool) → IsZero (sum binary64 s a (not s) b c)
    by true = either (ltb a b) (none false) (nothing (ltb b a))
    by false = either (ltb a b) (none true) (nothing false)

pub level_sub : {x y : Float} → Level x y → IsZero (sub binary64 x y)
unfolding sub
level_sub (zeros a b) = zeros_sub a b
level_sub (one_sign s m n e d h) = differ s (m * up e * down d) (n * up d * down e) (down e * down d) h (mul-pos (down_pos e) (down_pos d))

-- a sum with nothing
sum_nothing : (s t : Bool) (a b c : ℕ) → 0 < a → b ≡ 0 → sum binary64 s a t b c ≡ round binary64 s a c
unfolding sum
sum_nothing s t a b c p z = by s t
  where
    all : a + b ≡ a
    all = omega arith

    rest : a - b ≡ a
    rest = omega arith

    not_less : ltb a b ≡ false
    not_less = le-ltb a b (omega arith)

    more : ltb b a ≡ true
    more = lt-ltb b a (omega arith)

    by : (s t : Bool) → sum binary64 s a t b c ≡ round binary64 s a c
    by true true = rw all
    by true false = rw (not_less, more, rest)
    by false true = rw (not_less, rest)
    by false false = rw all

of_value : (x : Float) (s : Bool) (m : ℕ) (e : ℤ) → HasValue x s (m * up e) (down e) → Level x (fin s m e)
of_value (fin t n d) s m e v = subst (λ (u : Bool). Level (fin u n d) (fin s m e)) (sym v.0) (one_sign s n m d e v.1)
of_value nan s m e v = elim v [ ]
of_value (inf _) s m e v = elim v [ ]

-- x + 0
sum_zero : (s u : Bool) (m : ℕ) (e : ℤ) → add binary64 (fin s (suc m) e) (fin u 0 (pos 0)) ≡ round binary64 s (suc m * up e) (down e)
unfolding add
sum_zero s u m e =
    sum_nothing s u (suc m * up e * 1) (0 * down e) (down e * 1) (mul-pos (mul-pos (zero-lt-suc m) (up_pos e)) (zero-lt-suc 0)) (omega arith)
    ∙ rw (mul-one (suc m * up e), mul-one (down e))

pub plus_zero : (x : Float) {z : Float} → T (fits binary64 x) → T (finite x) → IsZero z → Level (add binary64 x z) x
plus_zero (fin s zero e) f t z = zeros (zeros_add (zero_fits s e f) z) (zero_fits s e f)
plus_zero (fin s (suc m) e) f t (is_zero u) = rw (sum_zero s u m e) (of_value _ s (suc m) e (own_value s (suc m) e f))
plus_zero nan f t z = elim t [ ]
plus_zero (inf _) f t z = elim t [ ]
