-- Signed numbers at the widths of the code. Assumes nothing.
use Rattle.std.specs.Prelude.{Some, None, Result, Ok, Err, OkIff}
use Rattle.std.specs.Result.{result_ok}
use Prim.Native.Nat.{ℕ, zero, suc, ◌-◌, ◌^◌, ◌≤◌, ◌<◌}
use mathlib.Core.Bool.{Bool, true, false, cond, ◌&&◌}
use mathlib.Core.Path.{◌≡◌, refl, ap, ◌∙◌}
use native.Mathlib.Omega.{arith}
use borrow.Author.Tests.{lt-ltb, le-ltb, le-leb, ltb-false, leb-true}
use lib.Dec.{ltb, leb}
use lib.IntN.{ℤ, pos, negsuc, neg_ℤ, ◌+ℤ◌, ◌-ℤ◌, +ℤ_idl}
use lib.Signed.{mag}
use mir.Syntax.{w16, w32, w64}
use mir.Val.{SFits, to_z, of_z}
use mir.Facts.{to_z_pos, to_z-of_z, sfits_widen}
use Rattle.glyf.specs.Layout.{signed_if, signed}
use Rattle.glyfread.specs.Steps.{moved_if, moved_to}

-- ---- a word in two's complement

module _ (v : ℕ) (word : v < 65536) where
  is_word : to_z w32 v ≡ pos v
  is_word = to_z_pos w32 {n = v} (omega arith)

  pub low_half : v < 32768 → to_z w32 v ≡ signed v
  low_half h = rw (lt-ltb v 32768 h) is_word

  module _ (high : 32768 ≤ v) where
    lowered : pos v -ℤ pos 65536 ≡ neg_ℤ (pos (65536 - v))
    lowered =
        let e : 65536 - v ≡ suc (65535 - v) = omega arith in
        rw (lt-ltb v 65536 word, e) (ap negsuc (omega arith))

    as_signed : to_z w32 v -ℤ pos 65536 ≡ signed v
    as_signed = rw (is_word, le-ltb v 32768 high) lowered

    signed_fits : SFits w32 (signed v)
    signed_fits =
        let e : 65536 - v ≡ suc (65535 - v) = omega arith in
        rw (le-ltb v 32768 high, e) (record { sfits = omega arith })

    pub high_fits : SFits w32 (to_z w32 v -ℤ pos 65536)
    high_fits = rw as_signed signed_fits

    pub high_half : to_z w32 (of_z w32 (to_z w32 v -ℤ pos 65536)) ≡ signed v
    high_half = to_z-of_z high_fits ∙ as_signed

pub word_fits : (v : ℕ) → v < 65536 → SFits w32 (signed v)
word_fits v h = by (ltb v 32768) refl
  where
    by : (t : Bool) → ltb v 32768 ≡ t → SFits w32 (signed_if t v)
    by true e = record { sfits = omega arith }
    by false e =
        let high = ltb-false v 32768 e in
        let k : 65536 - v ≡ suc (65535 - v) = omega arith in
        rw k (record { sfits = omega arith })

-- ---- a byte, up and down

pub up_is : (b : ℕ) → b < 256 → to_z w32 b ≡ pos b
up_is b h = to_z_pos w32 {n = b} (omega arith)

mag_neg : (b : ℕ) → b < 256 → mag (neg_ℤ (pos b)) < 256
mag_neg zero h = omega arith
mag_neg (suc b) h = omega arith

module _ (b : ℕ) (byte : b < 256) where
  neg_is : pos 0 -ℤ to_z w32 b ≡ neg_ℤ (pos b)
  neg_is = rw (up_is b byte) (+ℤ_idl (neg_ℤ (pos b)))

  pub neg_fits : SFits w32 (neg_ℤ (pos b))
  neg_fits = record { sfits = omega (arith, mag_neg b byte) }

  pub pos_fits : SFits w32 (pos b)
  pos_fits = record { sfits = omega arith }

  pub down_fits : SFits w32 (pos 0 -ℤ to_z w32 b)
  down_fits = rw neg_is neg_fits

  pub down_is : to_z w32 (of_z w32 (pos 0 -ℤ to_z w32 b)) ≡ neg_ℤ (pos b)
  down_is = to_z-of_z down_fits ∙ neg_is

-- ---- a coordinate moved

mag_either : (t : Bool) (x y n : ℕ) → x < n → y < n → mag (cond t (negsuc x) (pos y)) < n
mag_either true x y n h k = h
mag_either false x y n h k = k

mag_sum : (a b : ℤ) → mag a < 2 ^ 15 → mag b < 2 ^ 31 → mag (a +ℤ b) < 2 ^ 32
mag_sum (pos a) (pos b) h k = omega arith
mag_sum (pos a) (negsuc b) h k = mag_either (ltb a (suc b)) (suc b - suc a) (a - suc b) (2 ^ 32) (omega arith) (omega arith)
mag_sum (negsuc a) (pos b) h k = mag_either (ltb b (suc a)) (suc a - suc b) (b - suc a) (2 ^ 32) (omega arith) (omega arith)
mag_sum (negsuc a) (negsuc b) h k = omega arith

-- a number of 16 bits stays, another goes outside
stays_in : (z : ℤ) → SFits w16 z → Some z ≡ moved_to z
unfolding moved_to
stays_in (pos n) f = rw (le-leb n 32767 (omega (arith, f.sfits)))
stays_in (negsuc n) f = rw (le-leb n 32767 (omega (arith, f.sfits)))

goes_out : (z : ℤ) → (SFits w16 z → ⊥) → None ≡ moved_to z
unfolding moved_to
goes_out (pos n) f = by (leb n 32767) refl
  where
    by : (t : Bool) → leb n 32767 ≡ t → None ≡ moved_if t (pos n)
    by true e = let inside = leb-true n 32767 e in absurd (f (record { sfits = omega arith }))
    by false e = refl
goes_out (negsuc n) f = by (leb n 32767) refl
  where
    by : (t : Bool) → leb n 32767 ≡ t → None ≡ moved_if (t && true) (negsuc n)
    by true e = let inside = leb-true n 32767 e in absurd (f (record { sfits = omega arith }))
    by false e = refl

abbrev in64 : ℤ → ℤ
in64 z = to_z w64 (of_z w64 z)

module _ {a b : ℤ} (fa : SFits w16 a) (fb : SFits w32 b) where
  pub widens_a : SFits w64 (to_z w16 (of_z w16 a))
  widens_a = rw (to_z-of_z fa) (sfits_widen tt fa)

  pub widens_b : SFits w64 (to_z w32 (of_z w32 b))
  widens_b = rw (to_z-of_z fb) (sfits_widen tt fb)

  abbrev added : ℤ
  added = in64 (to_z w16 (of_z w16 a)) +ℤ in64 (to_z w32 (of_z w32 b))

  added_is : added ≡ a +ℤ b
  added_is = λ k. (to_z-of_z widens_a ∙ to_z-of_z fa) k +ℤ (to_z-of_z widens_b ∙ to_z-of_z fb) k

  pub added_fits : SFits w64 added
  added_fits = rw added_is (record { sfits = omega (arith, mag_sum a b fa.sfits fb.sfits) })

  sum_is : in64 added ≡ a +ℤ b
  sum_is = to_z-of_z added_fits ∙ added_is

  -- a sum cut to 16 bits where it has them
  pub moved_is : {E : Type 0} (r : Result ℤ E) → OkIff r (SFits w16 (in64 added)) (in64 added) → result_ok r ≡ moved_to (a +ℤ b)
  moved_is (Ok x) h = rw (h.1, sum_is) (stays_in (a +ℤ b) (rw sum_is at h.0))
  moved_is (Err e) h = goes_out (a +ℤ b) (λ f. h (rw sum_is f))
