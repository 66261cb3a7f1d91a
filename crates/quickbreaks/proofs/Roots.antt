-- Of two squares of which one is less by a thousandth, the root is less too. Assumes nothing.
use Prim.Native.Nat.{ℕ, zero, suc, ◌+◌, ◌-◌, ◌*◌, ◌/◌, ◌%◌, ◌^◌, ◌≤◌, ◌<◌}
use mathlib.Core.Bool.{Bool, true, false, ◌&&◌, false≢true}
use mathlib.Core.Path.{◌≡◌, refl, sym, ap, ◌∙◌, subst}
use native.Mathlib.Nat.{mul_assoc, mul_comm, mul-mul-mul_comm, mul-pos, mul-le-mul, mul-lt-mul_of_pos_right, mul-div_cancel, zero-lt-suc, zero-mul, mul-one, sub-add_cancel, le_of_suc-le-suc, lt_of_lt_of_le, lt_of_not-le, not-le_of_lt, lt_of_mul-lt-mul_right}
use native.Mathlib.Omega.{arith}
use borrow.Author.Tests.{ltb-true, lt-ltb}
use lib.Dec.{T, lit≤, lit<, ltb, leb, eqb, leb→le}
use lib.Pow.{pow-add, pow_mono, pow_pos}
use lib.IntN.{ℤ, pos, negsuc}
use lib.Ieee.{Float, nan, inf, fin, binary64, up, down, fits, round, mul, lt, le, eq, below}
use lib.Ieee.Exact.{HasValue}
use lib.Ieee.Fits.{up_pos, down_pos, and_l, and_r}
use lib.Ieee.Order.{round_mono}
use lib.Ieee.Positive.{first_pos}
use Rattle.float.specs.Float.{root_units, root_of}
use Rattle.float.proofs.Less.{apart_signs, not_less}
use Rattle.float.proofs.NearRoot.{near_root}
use Rattle.float.proofs.Own.{itself}
use Rattle.float.proofs.Dyadic.{left, right}

-- ---- the lesser of two

less_squares : (A B M K : ℕ) → A * 1048576 ≤ 1048579 * M → K * 1048576 ≤ 1048579 * B → 1025 * M < 1024 * K → A < B
less_squares A B M K most least less = omega arith

less_roots : (p q : ℕ) → p * p < q * q → p < q
less_roots p q h = lt_of_not-le (λ (g : q ≤ p). not-le_of_lt h (mul-le-mul g g))

less_values : (x y : Float) (a b c : ℕ) → HasValue x false a c → HasValue y false b c → a < b → lt x y ≡ true
unfolding lt
less_values nan y a b c v w h = absurd v
less_values (inf s) y a b c v w h = absurd v
less_values (fin s m e) nan a b c v w h = absurd w
less_values (fin s m e) (inf t) a b c v w h = absurd w
less_values (fin true m e) (fin t n d) a b c v w h = absurd (false≢true (sym v.0))
less_values (fin false m e) (fin true n d) a b c v w h = absurd (false≢true (sym w.0))
less_values (fin false m e) (fin false n d) a b c v w h =
    lt-ltb (m * up e * down d) (n * up d * down e)
    (lt_of_mul-lt-mul_right c
    (rw (left m n a b c e d v.1 w.1, right m n a b c e d v.1 w.1) (mul-lt-mul_of_pos_right h (mul-pos (down_pos e) (down_pos d)))))

less_units : (n k : ℕ) → 0 < n → 0 < k → 1025 * n < 1024 * k → lt (root_units n) (root_units k) ≡ true
less_units n k some more h =
    let a = near_root n some in
    let b = near_root k more in
    let scaled : 1025 * (n * 2 ^ 106) < 1024 * (k * 2 ^ 106) = rw (← mul_assoc 1025 n (2 ^ 106), ← mul_assoc 1024 k (2 ^ 106)) (mul-lt-mul_of_pos_right h (pow_pos 106)) in
    let p : a.p < b.p = less_roots a.p b.p (less_squares (a.p * a.p) (b.p * b.p) (n * 2 ^ 106) (k * 2 ^ 106) a.most b.least scaled) in
    less_values (root_units n) (root_units k) (a.p * 2 ^ 484) (b.p * 2 ^ 484) (2 ^ 1074) a.value b.value (mul-lt-mul_of_pos_right p (pow_pos 484))

-- ---- an f64 is a whole number of smallest f64s: k of them are 2 ^ d
record Whole (d : ℤ) : Type 0 where
  k : ℕ
  is : 2 ^ 1074 ≡ k * down d

whole : (d : ℤ) → down d ≤ 2 ^ 1074 → Whole d
whole (pos j) h = record { k = 2 ^ 1074; is = sym (mul-one (2 ^ 1074)) }
whole (negsuc j) h = record { k = 2 ^ (1074 - suc j); is = ap (λ (i : ℕ). 2 ^ i) (sym (sub-add_cancel in_range)) ∙ pow-add 2 (1074 - suc j) (suc j) }
  where
    in_range : suc j ≤ 1074
    in_range = le_of_suc-le-suc (lt_of_not-le (λ (g : 1075 ≤ suc j). not-le_of_lt (lt_of_lt_of_le (lit< tt) (pow_mono g)) h))

whole_of : (m : ℕ) (e : ℤ) → T (fits binary64 (fin false (suc m) e)) → Whole e
unfolding fits
whole_of m e h =
    let A = eqb (suc m % 2) 1 in
    let B = ltb (suc m) (2 ^ 53) in
    let C = leb (down e) (2 ^ 1074) in
    let D = ltb (suc m * up e) (2 ^ 1024 * down e) in
    whole e (leb→le (down e) (2 ^ 1074) (and_r (A && B) C (and_l (A && B && C) D h)))

k_pos : {d : ℤ} (w : Whole d) → 0 < w.k
k_pos {d} w = first_pos w.k (down d) (rw (← w.is) (pow_pos 1074))

-- X / E and Y / D, in smallest f64s
module _ (X Y E D k l : ℕ) (e : 2 ^ 1074 ≡ k * E) (d : 2 ^ 1074 ≡ l * D) where
  in_units : 0 < E → 0 < D → X * 1025 * D < Y * (E * 1024) → 1025 * (X * k) < 1024 * (Y * l)
  in_units p q h =
      let x : 1025 * (X * k) * (E * D) ≡ X * 1025 * D * 2 ^ 1074 =
      ap (λ (a : ℕ). a * (E * D)) (sym (mul_assoc 1025 X k) ∙ ap (λ (a : ℕ). a * k) (mul_comm 1025 X))
      ∙ ap (λ (a : ℕ). X * 1025 * k * a) (mul_comm E D)
      ∙ mul-mul-mul_comm (X * 1025) k D E
      ∙ ap (λ (a : ℕ). X * 1025 * D * a) (sym e) in
      let y : 1024 * (Y * l) * (E * D) ≡ Y * (E * 1024) * 2 ^ 1074 =
      ap (λ (a : ℕ). a * (E * D)) (sym (mul_assoc 1024 Y l) ∙ ap (λ (a : ℕ). a * l) (mul_comm 1024 Y))
      ∙ mul-mul-mul_comm (Y * 1024) l E D
      ∙ ap (λ (a : ℕ). a * (l * D)) (mul_assoc Y 1024 E ∙ ap (λ (a : ℕ). Y * a) (mul_comm 1024 E))
      ∙ ap (λ (a : ℕ). Y * (E * 1024) * a) (sym d) in
      lt_of_mul-lt-mul_right (E * D) (rw (x, y) (mul-lt-mul_of_pos_right h (pow_pos 1074)))

units_are : (m : ℕ) (e : ℤ) (w : Whole e) → suc m * up e * 2 ^ 1074 / down e ≡ suc m * up e * w.k
units_are m e w =
    ap (λ (a : ℕ). a / down e) (ap (λ (a : ℕ). suc m * up e * a) w.is ∙ sym (mul_assoc (suc m * up e) w.k (down e)))
    ∙ mul-div_cancel (suc m * up e * w.k) (down_pos e)

some_units : (m : ℕ) (e : ℤ) (w : Whole e) → 0 < suc m * up e * w.k
some_units m e w = mul-pos (mul-pos (zero-lt-suc m) (up_pos e)) (k_pos w)

-- 1025 / 1024 of an f64, rounded, is less than another only if it is before it is rounded
unrounded : (m n : ℕ) (e d : ℤ) → T (fits binary64 (fin false (suc n) d)) →
    lt (round binary64 false (suc m * up e * 1025) (down e * 1024)) (fin false (suc n) d) ≡ true → suc m * up e * 1025 * down d < suc n * up d * (down e * 1024)
unrounded m n e d f h =
    lt_of_not-le (λ (g : suc n * up d * (down e * 1024) ≤ suc m * up e * 1025 * down d).
    let r = round_mono binary64 (suc n * up d) (down d) (suc m * up e * 1025) (down e * 1024) (down_pos d) (mul-pos (down_pos e) (lit≤ tt)) g in
    subst T (not_less _ _ h) (subst (λ (y : Float). T (le y (round binary64 false (suc m * up e * 1025) (down e * 1024)))) (itself false (suc n) d f) r))

finite_less : (x : Float) (s : Bool) (a c : ℕ) → HasValue x s a c → lt x (inf false) ≡ true
unfolding lt
finite_less nan s a c v = absurd v
finite_less (inf t) s a c v = absurd v
finite_less (fin t m e) s a c v = refl

none : (e d : ℤ) → 0 * up e * down d ≡ 0
none e d = rw (zero-mul (up e), zero-mul (down d))

zero_less : (s : Bool) (e : ℤ) (y : Float) (b c : ℕ) → HasValue y false b c → 0 < b → 0 < c → lt (fin s zero e) y ≡ true
unfolding lt
zero_less s e nan b c v h p = absurd v
zero_less s e (inf t) b c v h p = absurd v
zero_less s e (fin true n d) b c v h p = absurd (false≢true (sym v.0))
zero_less s e (fin false n d) b c v h p = by s
  where
    some : 0 < n * up d * down e
    some = mul-pos (first_pos (n * up d) c (rw v.1 (mul-pos h (down_pos d)))) (down_pos e)

    by : (s : Bool) → lt (fin s zero e) (fin false n d) ≡ true
    by true = lt-ltb 0 (0 * up e * down d + n * up d * down e) (omega (arith, some))
    by false = lt-ltb (0 * up e * down d) (n * up d * down e) (rw (none e d) some)

-- ---- the root of a is less, where a is less by a thousandth
module _ (m n : ℕ) (e d : ℤ) (f : T (fits binary64 (fin false (suc m) e))) (g : T (fits binary64 (fin false (suc n) d))) where
  both_finite : lt (round binary64 false (suc m * up e * 1025) (down e * 1024)) (fin false (suc n) d) ≡ true → lt (root_of (fin false (suc m) e)) (root_of (fin false (suc n) d)) ≡ true
  unfolding root_of
  both_finite h =
      let v = whole_of m e f in
      let w = whole_of n d g in
      rw (units_are m e v, units_are n d w)
      (less_units (suc m * up e * v.k) (suc n * up d * w.k) (some_units m e v) (some_units n d w)
      (in_units (suc m * up e) (suc n * up d) (down e) (down d) v.k w.k v.is w.is (down_pos e) (down_pos d) (unrounded m n e d g h)))

-- the root of an f64 above 0 has a size above 0
record Positive (x : Float) : Type 0 where
  size : ℕ
  value : HasValue x false size (2 ^ 1074)
  above : 0 < size

root_above : (n : ℕ) (d : ℤ) → T (fits binary64 (fin false (suc n) d)) → Positive (root_of (fin false (suc n) d))
unfolding root_of
root_above n d f =
    let w = whole_of n d f in
    let k = suc n * up d * w.k in
    let r = near_root k (some_units n d w) in
    let p : 0 < r.p = less_roots 0 r.p (squared (k * 2 ^ 106) (r.p * r.p) (mul-pos (some_units n d w) (pow_pos 106)) r.least) in
    rw (units_are n d w) (record { size = r.p * 2 ^ 484; value = r.value; above = mul-pos p (pow_pos 484) })
  where
    squared : (M A : ℕ) → 0 < M → M * 1048576 ≤ 1048579 * A → 0 < A
    squared M A some least = omega arith

no_less : (s : Bool) (A B : ℕ) → A ≡ 0 → below s A true B ≡ true → ⊥
no_less true A B z t = omega (arith, ltb-true B A t)
no_less false A B z t = false≢true t

none_less : (s : Bool) (A B : ℕ) → A ≡ 0 → B ≡ 0 → below s A false B ≡ true → ⊥
none_less true A B z w t = omega (arith, ltb-true 0 (A + B) t)
none_less false A B z w t = omega (arith, ltb-true A B t)

of_zero : (s : Bool) (e : ℤ) (b : Float) → T (fits binary64 b) → lt (fin s zero e) b ≡ true → lt (root_of (fin s zero e)) (root_of b) ≡ true
unfolding lt root_of
of_zero s e nan g t = absurd (false≢true t)
of_zero s e (inf true) g t = absurd (false≢true t)
of_zero s e (inf false) g t = refl
of_zero s e (fin true n d) g t = absurd (no_less s (0 * up e * down d) (n * up d * down e) (none e d) t)
of_zero s e (fin false zero d) g t = absurd (none_less s (0 * up e * down d) (0 * up d * down e) (none e d) (none d e) t)
of_zero s e (fin false (suc n) d) g t =
    let r = root_above n d g in
    zero_less s e (root_of (fin false (suc n) d)) r.size (2 ^ 1074) r.value r.above (pow_pos 1074)

abbrev more : Float → Float
more a = mul binary64 a (fin false 1025 (negsuc 9))

of_number : (m : ℕ) (e : ℤ) (b : Float) → T (fits binary64 (fin false (suc m) e)) → T (fits binary64 b) → lt (fin false (suc m) e) b ≡ true →
    lt (more (fin false (suc m) e)) b ≡ true → lt (root_of (fin false (suc m) e)) (root_of b) ≡ true
unfolding lt mul root_of
of_number m e nan f g t w = absurd (false≢true t)
of_number m e (inf true) f g t w = absurd (false≢true t)
of_number m e (inf false) f g t w =
    let r = root_above m e f in
    finite_less (root_of (fin false (suc m) e)) false r.size (2 ^ 1074) r.value
of_number m e (fin true n d) f g t w = absurd (false≢true t)
of_number m e (fin false zero d) f g t w = absurd (omega (arith, none d e, ltb-true (suc m * up e * down d) (0 * up d * down e) t))
of_number m e (fin false (suc n) d) f g t w = both_finite m n e d f g w

pub surely : (a b : Float) → T (fits binary64 a) → T (fits binary64 b) → le (fin false 0 (pos 0)) a ≡ true → lt a b ≡ true → lt (more a) b ≡ true →
    lt (root_of a) (root_of b) ≡ true
unfolding le lt eq
surely nan b f g z t w = absurd (false≢true t)
surely (inf true) b f g z t w = absurd (false≢true z)
surely (inf false) nan f g z t w = absurd (false≢true t)
surely (inf false) (inf s) f g z t w = absurd (false≢true t)
surely (inf false) (fin s n d) f g z t w = absurd (false≢true t)
surely (fin true zero e) b f g z t w = of_zero true e b g t
surely (fin false zero e) b f g z t w = of_zero false e b g t
surely (fin true (suc m) e) b f g z t w =
    absurd (false≢true (sym (apart_signs (suc m * up e * 1) (0 * 1 * down e) (omega (arith, mul-pos (zero-lt-suc m) (up_pos e)))) ∙ z))
surely (fin false (suc m) e) b f g z t w = of_number m e b f g t w
