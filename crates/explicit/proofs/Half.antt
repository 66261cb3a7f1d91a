-- Half of the sum of two coordinates, halves away from zero, as the code has it: in 32 bits one is added away from zero, and the division cuts
-- toward it. Assumes nothing.
use Prim.Native.Nat.{ℕ, zero, suc, ◌+◌, ◌-◌, ◌*◌, ◌/◌, ◌^◌, ◌≤◌, ◌<◌}
use mathlib.Core.Bool.{Bool, true, false, cond, true≢false}
use mathlib.Core.Path.{◌≡◌, ap, ◌∙◌}
use native.Mathlib.Omega.{arith}
use borrow.Author.Tests.{ltb-true}
use lib.Dec.{ltb}
use lib.IntN.{ℤ, pos, negsuc, neg_ℤ, ◌+ℤ◌, ◌-ℤ◌}
use lib.Signed.{mag, quot_z, lt_z}
use mir.Syntax.{w16, w32}
use mir.Val.{SFits, to_z, of_z}
use mir.Facts.{to_z-of_z, sfits_widen}
use Rattle.contour.proofs.Sixteen.{in32}
use Rattle.halving.specs.Cubic.{nearest}
use Rattle.explicit.specs.Explicit.{middle}

negative_in : (r : ℕ) → r ≤ 2 ^ 15 → mag (neg_ℤ (pos r)) < 2 ^ 15
negative_in zero h = omega arith
negative_in (suc r) h = omega arith

negative_most : (r : ℕ) → mag (neg_ℤ (pos r)) < 2 ^ 15 → r ≤ 2 ^ 15
negative_most zero h = omega arith
negative_most (suc r) h = omega arith

-- z is s with one added away from zero; the half of s is of 16 bits
pub record Stepped (s z : ℤ) : Type 0 where
  pub fits : mag (nearest 1 s) < 2 ^ 15
  pub short : mag z < 2 ^ 31
  pub is : quot_z z (pos 2) ≡ nearest 1 s

below_by : (s : ℤ) → mag (nearest 1 s) < 2 ^ 15 → lt_z s (pos 0) ≡ true → Stepped s (s -ℤ pos 1)
below_by (pos n) h k = absurd (omega (arith, ltb-true n 0 k))
below_by (negsuc n) h k =
    let few = negative_most ((2 * suc n + 2) / 4) h in
    let half : suc (suc (n + 0)) / 2 ≡ (2 * suc n + 2) / 4 = omega arith in
    record { fits = h; short = omega arith; is = ap (λ (r : ℕ). neg_ℤ (pos r)) half }

above_by : (s : ℤ) → mag (nearest 1 s) < 2 ^ 15 → lt_z s (pos 0) ≡ false → Stepped s (s +ℤ pos 1)
above_by (pos n) h k = record { fits = h; short = omega arith; is = ap pos (omega arith) }
above_by (negsuc n) h k = absurd (true≢false k)

module _ {s : ℤ} (f : SFits w32 s) (h : mag (nearest 1 s) < 2 ^ 15) where
  pub below : lt_z (in32 s) (pos 0) ≡ true → Stepped s (in32 s -ℤ pos 1)
  below k = rw (to_z-of_z f) (below_by s h (rw (to_z-of_z f) at k))

  pub above : lt_z (in32 s) (pos 0) ≡ false → Stepped s (in32 s +ℤ pos 1)
  above k = rw (to_z-of_z f) (above_by s h (rw (to_z-of_z f) at k))

module _ {s z : ℤ} (t : Stepped s z) where
  pub step_fits : SFits w32 z
  step_fits = record { sfits = t.short }

  -- the half, in 32 bits and in 16
  half_is : quot_z (in32 z) (pos 2) ≡ nearest 1 s
  half_is = ap (λ (x : ℤ). quot_z x (pos 2)) (to_z-of_z step_fits) ∙ t.is

  of_16 : SFits w16 (nearest 1 s)
  of_16 = record { sfits = t.fits }

  pub half_fits : SFits w32 (quot_z (in32 z) (pos 2))
  half_fits = rw half_is (sfits_widen tt of_16)

  pub cut_fits : SFits w16 (in32 (quot_z (in32 z) (pos 2)))
  cut_fits = rw (to_z-of_z half_fits, half_is) of_16

  pub half_cut : to_z w16 (of_z w16 (in32 (quot_z (in32 z) (pos 2)))) ≡ nearest 1 s
  half_cut = to_z-of_z cut_fits ∙ to_z-of_z half_fits ∙ half_is

-- ---- the middle of two coordinates is one

either : (t : Bool) (x y : ℕ) → x < 2 ^ 16 → y + 1 < 2 ^ 16 → mag (nearest 1 (cond t (negsuc x) (pos y))) < 2 ^ 15
either true x y h k = negative_in ((2 * suc x + 2) / 4) (omega arith)
either false x y h k = omega arith

middle_by : (a b : ℤ) → mag a < 2 ^ 15 → mag b < 2 ^ 15 → mag (middle a b) < 2 ^ 15
middle_by (pos m) (pos n) h k = omega arith
middle_by (pos m) (negsuc n) h k = either (ltb m (suc n)) (suc n - suc m) (m - suc n) (omega arith) (omega arith)
middle_by (negsuc m) (pos n) h k = either (ltb n (suc m)) (suc m - suc n) (n - suc m) (omega arith) (omega arith)
middle_by (negsuc m) (negsuc n) h k = negative_in ((2 * suc (suc (m + n)) + 2) / 4) (omega arith)

pub middle_fits : {a b : ℤ} → SFits w16 a → SFits w16 b → SFits w16 (middle a b)
middle_fits {a} {b} f g = record { sfits = middle_by a b f.sfits g.sfits }

-- as the code hands it on: from bits, and back to them
pub sum_half : {a b r : ℤ} → SFits w16 a → SFits w16 b → SFits w32 r → r ≡ to_z w16 (of_z w16 a) +ℤ to_z w16 (of_z w16 b) → nearest 1 (in32 r) ≡ middle a b
sum_half {a} {b} {r} f g h is = ap (nearest 1) (to_z-of_z h ∙ is ∙ λ k. to_z-of_z f k +ℤ to_z-of_z g k)

pub middle_back : (a b : ℤ) {m : ℤ} → SFits w16 a → SFits w16 b → SFits w16 m → m ≡ middle (to_z w16 (of_z w16 a)) (to_z w16 (of_z w16 b)) → to_z w16 (of_z w16 m) ≡ middle a b
middle_back a b f g h is = to_z-of_z h ∙ is ∙ λ k. middle (to_z-of_z f k) (to_z-of_z g k)
