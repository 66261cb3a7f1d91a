-- Numbers of 16 bits in the code: their sum cut to 16 bits, its half, and the test that two are equal. Assumes nothing.
use Prim.Native.Nat.{ℕ, zero, suc, ◌-◌, ◌/◌, ◌%◌, ◌^◌, ◌≤◌, ◌<◌}
use mathlib.Core.Bool.{Bool, true, false, cond, false≢true}
use mathlib.Core.Path.{◌≡◌, refl, sym, ap, ◌∙◌}
use native.Mathlib.Nat.{mod-eq_of_lt, div-le_self}
use native.Mathlib.Omega.{arith}
use borrow.Author.Tests.{lt-ltb, le-ltb, eq-eqb, ne_eqb, eqb-true, eqb-false, ltb-true, ltb-false}
use lib.Dec.{eqb, ltb}
use lib.IntN.{ℤ, pos, negsuc, neg_ℤ, ◌+ℤ◌, ◌-ℤ◌}
use lib.Signed.{mag, quot_z, lt_z}
use mir.Syntax.{Width, w16, w32}
use mir.Val.{SFits, to_z, of_z}
use mir.Facts.{to_z-of_z, sfits_widen}
use Rattle.contour.specs.Implied.{mod16, signed_if, cut_of, middle_of, same}

-- ---- the cut

-- below 2 ^ 16 nothing is taken away
small : (n : ℕ) → n < 2 ^ 16 → n % 2 ^ 16 ≡ n
small n h = mod-eq_of_lt h

pub cut_inside : (z : ℤ) → mag z < 2 ^ 15 → cut_of z ≡ z
unfolding cut_of
cut_inside (pos n) h = rw (small n (omega arith), lt-ltb n (2 ^ 15) h)
cut_inside (negsuc n) h =
    let back : 2 ^ 16 - 1 - (2 ^ 16 - 1 - n) ≡ n = omega arith in
    rw (small n (omega arith), le-ltb (2 ^ 16 - 1 - n) (2 ^ 15) (omega arith), back)

-- above: 2 ^ 16 less
pub cut_above : (z : ℤ) → mag z < 2 ^ 16 → lt_z (pos 32767) z ≡ true → cut_of z ≡ z -ℤ pos 65536
unfolding cut_of
cut_above (pos n) h k =
    let low = ltb-true 32767 n k in
    rw (small n h, le-ltb n (2 ^ 15) (omega arith), lt-ltb n 65536 h) (ap negsuc (omega arith))
cut_above (negsuc n) h k = absurd (false≢true k)

-- below: 2 ^ 16 more
pub cut_below : (z : ℤ) → mag z < 2 ^ 16 → lt_z z (negsuc 32767) ≡ true → cut_of z ≡ z +ℤ pos 65536
unfolding cut_of
cut_below (pos n) h k = absurd (false≢true k)
cut_below (negsuc n) h k =
    let low = ltb-true 32767 n k in
    rw (small n h, lt-ltb (2 ^ 16 - 1 - n) (2 ^ 15) (omega arith), le-ltb 65536 (suc n) (omega arith)) (ap pos (omega arith))

pub cut_fits : (z : ℤ) → SFits w16 (cut_of z)
unfolding cut_of
cut_fits z = by (ltb (mod16 z) (2 ^ 15)) refl
  where
    by : (t : Bool) → ltb (mod16 z) (2 ^ 15) ≡ t → SFits w16 (signed_if t (mod16 z))
    by true e = record { sfits = ltb-true (mod16 z) (2 ^ 15) e }
    by false e = record { sfits = omega (arith, ltb-false (mod16 z) (2 ^ 15) e) }

-- ---- the sum of two

mag_either : (t : Bool) (x y n : ℕ) → x < n → y < n → mag (cond t (negsuc x) (pos y)) < n
mag_either true x y n h k = h
mag_either false x y n h k = k

mag_sum : (a b : ℤ) → mag a < 2 ^ 15 → mag b < 2 ^ 15 → mag (a +ℤ b) < 2 ^ 16
mag_sum (pos a) (pos b) h k = omega arith
mag_sum (pos a) (negsuc b) h k = mag_either (ltb a (suc b)) (suc b - suc a) (a - suc b) (2 ^ 16) (omega arith) (omega arith)
mag_sum (negsuc a) (pos b) h k = mag_either (ltb b (suc a)) (suc a - suc b) (b - suc a) (2 ^ 16) (omega arith) (omega arith)
mag_sum (negsuc a) (negsuc b) h k = omega arith

-- z in 32 bits, read back
abbrev pub in32 : ℤ → ℤ
in32 z = to_z w32 (of_z w32 z)

pub widened : {z : ℤ} → SFits w16 z → SFits w32 (to_z w16 (of_z w16 z))
widened f = rw (to_z-of_z f) (sfits_widen tt f)

module _ {a b : ℤ} (fa : SFits w16 a) (fb : SFits w16 b) where
  -- the sum as the code has it
  abbrev added : ℤ
  added = in32 (to_z w16 (of_z w16 a)) +ℤ in32 (to_z w16 (of_z w16 b))

  added_is : added ≡ a +ℤ b
  added_is = λ k. (to_z-of_z (widened fa) ∙ to_z-of_z fa) k +ℤ (to_z-of_z (widened fb) ∙ to_z-of_z fb) k

  below : mag (a +ℤ b) < 2 ^ 16
  below = mag_sum a b fa.sfits fb.sfits

  pub added_fits : SFits w32 added
  added_fits = rw added_is (record { sfits = omega (arith, below) })

  pub sum_is : in32 added ≡ a +ℤ b
  sum_is = to_z-of_z added_fits ∙ added_is

  -- the cases: what is taken away or added, the result in 32 bits and in 16
  module _ (z : ℤ) (is : z ≡ cut_of (a +ℤ b)) where
    pub fits_32 : SFits w32 z
    fits_32 = rw is (sfits_widen tt (cut_fits (a +ℤ b)))

    pub fits_16 : SFits w16 (in32 z)
    fits_16 = rw (to_z-of_z fits_32, is) (cut_fits (a +ℤ b))

    pub cut_is : to_z w16 (of_z w16 (in32 z)) ≡ cut_of (a +ℤ b)
    cut_is = to_z-of_z fits_16 ∙ to_z-of_z fits_32 ∙ is

  pub above : lt_z (pos 32767) (in32 added) ≡ true → in32 added -ℤ pos 65536 ≡ cut_of (a +ℤ b)
  above h = rw sum_is (sym (cut_above (a +ℤ b) below (rw sum_is at h)))

  pub beneath : lt_z (in32 added) (negsuc 32767) ≡ true → in32 added +ℤ pos 65536 ≡ cut_of (a +ℤ b)
  beneath h = rw sum_is (sym (cut_below (a +ℤ b) below (rw sum_is at h)))

  pub between : lt_z (pos 32767) (in32 added) ≡ false → lt_z (in32 added) (negsuc 32767) ≡ false → added ≡ cut_of (a +ℤ b)
  between h k = added_is ∙ sym (cut_inside (a +ℤ b) (near (a +ℤ b) (rw sum_is at h) (rw sum_is at k)))
    where
      near : (z : ℤ) → lt_z (pos 32767) z ≡ false → lt_z z (negsuc 32767) ≡ false → mag z < 2 ^ 15
      near (pos n) h k = omega (arith, ltb-false 32767 n h)
      near (negsuc n) h k = omega (arith, ltb-false 32767 n k)

-- ---- half of one

half_fits : (z : ℤ) {n : ℕ} → mag z < n → mag (quot_z z (pos 2)) < n
half_fits (pos a) h = omega (arith, div-le_self a 2)
half_fits (negsuc a) {n} h = by (suc a / 2) (omega arith)
  where
    by : (r : ℕ) → r ≤ n → mag (neg_ℤ (pos r)) < n
    by zero k = omega arith
    by (suc r) k = k

module _ {z : ℤ} (f : SFits w16 z) where
  pub half_fits_16 : SFits w16 (quot_z (to_z w16 (of_z w16 z)) (pos 2))
  half_fits_16 = rw (to_z-of_z f) (record { sfits = half_fits z f.sfits })

  pub half_is : {y : ℤ} → z ≡ y → to_z w16 (of_z w16 (quot_z (to_z w16 (of_z w16 z)) (pos 2))) ≡ quot_z y (pos 2)
  half_is e = to_z-of_z half_fits_16 ∙ ap (λ (x : ℤ). quot_z x (pos 2)) (to_z-of_z f ∙ e)

-- ---- equal numbers

pub is_same : (a b : ℤ) → a ≡ b → same a b ≡ true
is_same a b e = rw e (by b)
  where
    by : (z : ℤ) → same z z ≡ true
    by (pos n) = eq-eqb n n refl
    by (negsuc n) = eq-eqb n n refl

pub same_so : (a b : ℤ) → same a b ≡ true → a ≡ b
same_so (pos a) (pos b) e = ap pos (eqb-true a b e)
same_so (pos a) (negsuc b) e = absurd (false≢true e)
same_so (negsuc a) (pos b) e = absurd (false≢true e)
same_so (negsuc a) (negsuc b) e = ap negsuc (eqb-true a b e)

not_same : (a b : ℤ) → (a ≡ b → ⊥) → same a b ≡ false
not_same (pos a) (pos b) f = ne_eqb a b (λ e. f (ap pos e))
not_same (pos a) (negsuc b) f = refl
not_same (negsuc a) (pos b) f = refl
not_same (negsuc a) (negsuc b) f = ne_eqb a b (λ e. f (ap negsuc e))

-- the code compares bits
pub same_bits : {w : Width} {a b : ℤ} → SFits w a → SFits w b → eqb (of_z w a) (of_z w b) ≡ same a b
same_bits {w} {a} {b} fa fb = by (eqb (of_z w a) (of_z w b)) refl
  where
    by : (t : Bool) → eqb (of_z w a) (of_z w b) ≡ t → t ≡ same a b
    by true e = sym (is_same a b (sym (to_z-of_z fa) ∙ ap (to_z w) (eqb-true (of_z w a) (of_z w b) e) ∙ to_z-of_z fb))
    by false e = sym (not_same a b (λ q. eqb-false (of_z w a) (of_z w b) e (ap (of_z w) q)))

-- it compares sums of two in 32 bits, where nothing is cut
pub same_sums : {a b c d : ℤ} (fa : SFits w16 a) (fb : SFits w16 b) (fc : SFits w16 c) (fd : SFits w16 d) →
    eqb (of_z w32 (added fa fb)) (of_z w32 (added fc fd)) ≡ same (a +ℤ b) (c +ℤ d)
same_sums fa fb fc fd = same_bits (added_fits fa fb) (added_fits fc fd) ∙ λ k. same (added_is fa fb k) (added_is fc fd k)

-- ---- numbers that are handed to a function, read back from their bits

pub sum_back : (a b : ℤ) → SFits w16 a → SFits w16 b → cut_of (to_z w16 (of_z w16 a) +ℤ to_z w16 (of_z w16 b)) ≡ cut_of (a +ℤ b)
sum_back a b fa fb = λ k. cut_of (to_z-of_z fa k +ℤ to_z-of_z fb k)

pub middle_back : (a b : ℤ) → SFits w16 a → SFits w16 b → middle_of (to_z w16 (of_z w16 a)) (to_z w16 (of_z w16 b)) ≡ middle_of a b
middle_back a b fa fb = λ k. middle_of (to_z-of_z fa k) (to_z-of_z fb k)

pub midway_back : (test : ℤ → ℤ → ℤ → Bool) (a b c : ℤ) → SFits w16 a → SFits w16 b → SFits w16 c →
    test (to_z w16 (of_z w16 a)) (to_z w16 (of_z w16 b)) (to_z w16 (of_z w16 c)) ≡ test a b c
midway_back test a b c fa fb fc = λ k. test (to_z-of_z fa k) (to_z-of_z fb k) (to_z-of_z fc k)
