-- A sum does not fall while terms that are not negative are added to it, nor does a score with that sum. Assumes nothing.
use Prim.Native.Nat.{ℕ, zero, suc, ◌+◌, ◌*◌, ◌≤◌, ◌<◌}
use native.Mathlib.Nat.{le_of_eq, lt_of_not-le, mul-one, mul_assoc, mul_comm, mul_left_comm, add-mul, mul-pos, mul-le-mul_right, le_refl, add-le-add}
use native.Mathlib.Omega.{arith}
use mathlib.Core.Bool.{true, false, false≢true}
use mathlib.Core.Path.{◌≡◌, refl, sym, ◌∙◌}
use borrow.Author.Tests.{ltb-true, lt-ltb}
use lib.Dec.{T}
use lib.IntN.{ℤ, pos}
use lib.Ieee.{Float, nan, inf, fin, binary64, up, down, fits, round, sum, add, lt, le, of_bits}
use lib.Ieee.Fits.{down_pos, add-fits}
use lib.Ieee.Bits.{of_bits-fits}
use lib.Ieee.Order.{round_mono, le_of_values}
use lib.Ieee.Positive.{through}
use Rattle.float.specs.Numbers.{nought}
use Rattle.float.proofs.Zeros.{Level, one_sign, zeros, is_zero, plus_zero, plus_nan}
use Rattle.float.proofs.NotNegative.{NotNegative, no_number, endless, number, rounded_plus, add_plus, none_above}
use Rattle.float.proofs.Nearly.{at_most, Ratio, ratio, ratio_finite, size_le_of}
use Rattle.quickmeasure.specs.Terms.{sums_of}
use Rattle.quickmeasure.proofs.Signs.{weight_plus, sums_plus}

-- what is above zero is not negative
pub above_plus : (r : Float) → lt nought r ≡ true → NotNegative r
unfolding lt of_bits
above_plus nan h = absurd (false≢true h)
above_plus (inf true) h = absurd (false≢true h)
above_plus (inf false) h = endless
above_plus (fin true m e) h = absurd (false≢true h)
above_plus (fin false m e) h = number m e

-- ---- at most, then less
-- three fractions: x / p ≤ y / q < z / r
strictly : (x y z p q r : ℕ) → 0 < p → x * q ≤ y * p → y * r < z * q → x * r < z * p
strictly x y z p q r P h k = lt_of_not-le (λ g. omega (arith, through z x y r p q P g h))

le_lt : {p q : Float} (z : Float) → NotNegative p → NotNegative q → T (le p q) → lt q z ≡ true → lt p z ≡ true
unfolding le
le_lt z no_number b h k = absurd h
le_lt z endless no_number h k = absurd h
le_lt z endless endless h k = k
le_lt z endless (number n d) h k = absurd h
le_lt z (number m e) no_number h k = absurd h
le_lt z (number m e) endless h k = absurd (none_above z k)
le_lt nan (number m e) (number n d) h k = absurd (false≢true k)
le_lt (inf u) (number m e) (number n d) h k = k
le_lt (fin true r g) (number m e) (number n d) h k = absurd (false≢true k)
le_lt (fin false r g) (number m e) (number n d) h k =
    lt-ltb _ _ (strictly (m * up e) (n * up d) (r * up g) (down e) (down d) (down g) (down_pos e) (at_most _ _ h) (ltb-true _ _ k))

-- of two fractions the larger, rounded, is less than z, and so is the other
rounded_lt : (a b c d : ℕ) (z : Float) → 0 < b → 0 < d → a * d ≤ c * b → lt (round binary64 false c d) z ≡ true → lt (round binary64 false a b) z ≡ true
rounded_lt a b c d z B D h k = le_lt z (rounded_plus a b) (rounded_plus c d) (round_mono binary64 a b c d B D h) k

-- ---- a sum with more is no less
-- with m / e ≤ n / d, k / f + m / e ≤ k / f + n / d
wider : (k f m e n d : ℕ) → m * d ≤ n * e → (k * e + m * f) * (f * d) ≤ (k * d + n * f) * (f * e)
wider k f m e n d h =
    let left : (k * e + m * f) * (f * d) ≡ k * e * (f * d) + m * d * (f * f) = add-mul (k * e) (m * f) (f * d) ∙ simp (mul_assoc, mul_comm, mul_left_comm) in
    let right : (k * d + n * f) * (f * e) ≡ k * e * (f * d) + n * e * (f * f) = add-mul (k * d) (n * f) (f * e) ∙ simp (mul_assoc, mul_comm, mul_left_comm) in
    rw (left, right) (add-le-add (le_refl _) (mul-le-mul_right (f * f) h))

pub adding : {x p q : Float} (z : Float) → NotNegative x → NotNegative p → NotNegative q → T (le p q) → lt (add binary64 x q) z ≡ true → lt (add binary64 x p) z ≡ true
unfolding add sum le
adding z no_number b c h k = k
adding z endless no_number c h k = absurd h
adding z endless endless no_number h k = absurd h
adding z endless endless endless h k = k
adding z endless endless (number n d) h k = absurd h
adding z endless (number m e) no_number h k = absurd h
adding z endless (number m e) endless h k = k
adding z endless (number m e) (number n d) h k = k
adding z (number l g) no_number c h k = absurd h
adding z (number l g) endless no_number h k = absurd h
adding z (number l g) endless endless h k = k
adding z (number l g) endless (number n d) h k = absurd h
adding z (number l g) (number m e) no_number h k = absurd h
adding z (number l g) (number m e) endless h k = absurd (none_above z k)
adding z (number l g) (number m e) (number n d) h k =
    rounded_lt (l * up g * down e + m * up e * down g) (down g * down e) (l * up g * down d + n * up d * down g) (down g * down d) z
    (mul-pos (down_pos g) (down_pos e)) (mul-pos (down_pos g) (down_pos d))
    (wider (l * up g) (down g) (m * up e) (down e) (n * up d) (down d) (at_most _ _ h)) k

-- ---- a number that fits is at most its sum with what is not negative
-- a / e ≤ (a * d + b) / (e * d)
grows : (a b e d : ℕ) → (a * 1 + 0 * e) * (e * d) ≤ (a * d + b) * (e * 1)
grows a b e d =
    let same : a * 1 + 0 * e ≡ a = omega arith in
    let turned : a * (e * d) ≡ a * d * e = simp (mul_assoc, mul_comm) in
    let more : a * d ≤ a * d + b = omega arith in
    rw (same, mul-one, turned) (mul-le-mul_right e more)

level_le : {p q r : Float} → Level p q → NotNegative q → NotNegative r → T (le p r) → T (le q r)
unfolding le
level_le (one_sign false a b e d same) (number _ _) no_number h = absurd h
level_le (one_sign false a b e d same) (number _ _) endless h = tt
level_le (one_sign false a b e d same) (number _ _) (number c g) h =
    le_of_values (fin false b d) (fin false c g) (b * up d) (down d) (c * up g) (down g) (down_pos d) (down_pos g) (refl, refl) (refl, refl)
    (through (b * up d) (a * up e) (c * up g) (down d) (down e) (down g) (down_pos e) (le_of_eq (sym same)) (at_most _ _ h))
level_le (zeros (is_zero s) (is_zero false)) (number _ _) no_number h = absurd h
level_le (zeros (is_zero s) (is_zero false)) (number _ _) endless h = tt
level_le (zeros (is_zero s) (is_zero false)) (number _ _) (number c g) h =
    le_of_values (fin false 0 (pos 0)) (fin false c g) 0 1 (c * up g) (down g) (omega arith) (down_pos g) (refl, refl) (refl, refl) (omega arith)
level_le {r = r} (one_sign true a b e d same) x13 _ h = elim x13 [ ]
level_le {r = r} (zeros (is_zero s) (is_zero true)) x28 _ h = elim x28 [ ]

pub own : (m n : ℕ) (e d : ℤ) → T (fits binary64 (fin false m e)) → T (le (fin false m e) (add binary64 (fin false m e) (fin false n d)))
unfolding add sum
own m n e d f =
    level_le (plus_zero (fin false m e) f tt (is_zero false)) (number m e) (rounded_plus (m * up e * down d + n * up d * down e) (down e * down d))
    (round_mono binary64 (m * up e * 1 + 0 * down e) (down e * 1) (m * up e * down d + n * up d * down e) (down e * down d)
    (mul-pos (down_pos e) (down_pos (pos 0))) (mul-pos (down_pos e) (down_pos d)) (grows (m * up e) (n * up d * down e) (down e) (down d)))

-- and counted in smallest f64s
pub no_less : {x w : Float} {a b c : ℕ} → Ratio x a c → T (fits binary64 x) → NotNegative w → Ratio (add binary64 x w) b c → a ≤ b
no_less (ratio m e p v) f no_number r = absurd (unfold add in ratio_finite r)
no_less (ratio m e p v) f endless r = absurd (unfold add in ratio_finite r)
no_less (ratio m e p v) f (number n d) r = size_le_of (ratio m e p v) r (own m n e d f)

pub nan_lost : (x z : Float) → lt (add binary64 x nan) z ≡ true → ⊥
unfolding lt
nan_lost x z k = false≢true (rw (plus_nan x) at k)

-- where x + (e + w) is less than z, so is x + e
climb : {x e w : Float} (z : Float) → NotNegative x → NotNegative e → T (fits binary64 e) → NotNegative w → lt (add binary64 x (add binary64 e w)) z ≡ true →
    lt (add binary64 x e) z ≡ true
unfolding add le
climb z a no_number f c k = k
climb {x} z a endless f no_number k = absurd (nan_lost x z k)
climb z a endless f endless k = k
climb z a endless f (number n d) k = k
climb {x} z a (number m e) f no_number k = absurd (nan_lost x z k)
climb z a (number m e) f endless k = adding z a (number m e) endless tt k
climb z a (number m e) f (number n d) k = adding z a (number m e) (add_plus (number m e) (number n d)) (own m n e d f) k

-- ---- the sums of terms
sums_fit : (g : ℕ → Float) (i : ℕ) → T (fits binary64 (sums_of g i))
unfolding sums_of
sums_fit g zero = of_bits-fits binary64 _
sums_fit g (suc i) = add-fits binary64 _ _

once : (g : ℕ → Float) (i : ℕ) {x : Float} (z : Float) → ((k : ℕ) → k < 4 * suc i → NotNegative (g k)) → NotNegative x →
    lt (add binary64 x (sums_of g (suc i))) z ≡ true → lt (add binary64 x (sums_of g i)) z ≡ true
unfolding sums_of
once g i z all p k =
    climb z p (sums_plus g i (λ j less. all j (omega arith))) (sums_fit g i)
    (weight_plus (all (4 * i) (omega arith)) (all (4 * i + 1) (omega arith)) (all (4 * i + 2) (omega arith)) (all (4 * i + 3) (omega arith))) k

-- where the score with i + d steps is less than z, so is the one with i steps
pub sums_climb : (g : ℕ → Float) (i d : ℕ) {x : Float} (z : Float) → ((k : ℕ) → k < 4 * (i + d) → NotNegative (g k)) → NotNegative x →
    lt (add binary64 x (sums_of g (i + d))) z ≡ true → lt (add binary64 x (sums_of g i)) z ≡ true
sums_climb g i zero z all p k =
    let none : i + 0 ≡ i = omega arith in
    rw none at k
sums_climb g i (suc d) z all p k =
    let one : i + suc d ≡ suc (i + d) = omega arith in
    sums_climb g i d z (λ j less. all j (omega arith)) p (once g (i + d) z (λ j less. all j (omega arith)) p (rw one at k))
