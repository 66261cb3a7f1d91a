-- The difference of two coordinates of 16 bits. Assumes nothing.
use Prim.Native.Nat.{ℕ, zero, suc, ◌-◌}
use mathlib.Core.Bool.{Bool, true, false, cond, not}
use mathlib.Core.Path.{◌≡◌, refl, sym, ◌∙◌}
use native.Mathlib.Omega.{arith}
use borrow.Author.Tests.{lt-ltb}
use lib.Dec.{ltb, leb-zero, leb-suc-suc}
use lib.IntN.{ℤ, pos, negsuc, nat_abs, ◌-ℤ◌}
use lib.Signed.{le_z}
use mir.Syntax.{w16}
use mir.Val.{SFits, to_z, of_z}
use mir.Facts.{to_z-of_z}
use Rattle.glyfwrite.specs.Differences.{difference_of}
use Rattle.glyfwrite.specs.declared.difference.Difference.{Difference}
use Rattle.glyfwrite.proofs.Orders.{leb_not}

-- a coordinate copied
pub copied : {z : ℤ} → SFits w16 z → to_z w16 (of_z w16 z) ≡ z
copied f = to_z-of_z f

-- a difference is not below 0 where the second is not below the first
not_below : (t : Bool) (m n : ℕ) → le_z (pos 0) (cond t (negsuc m) (pos n)) ≡ not t
not_below true m n = refl
not_below false m n = leb-zero n

up_is : (a b : ℤ) → le_z (pos 0) (b -ℤ a) ≡ le_z a b
up_is (pos zero) (pos n) = leb-zero _ ∙ sym (leb-zero n)
up_is (pos (suc m)) (pos n) = not_below (ltb n (suc m)) (suc m - suc n) (n - suc m) ∙ rw (leb_not (suc m) n)
up_is (negsuc m) (pos n) = leb-zero _
up_is (pos zero) (negsuc n) = not_below (ltb 0 (suc n)) (suc n - 1) (0 - suc n) ∙ rw (lt-ltb 0 (suc n) (omega arith))
up_is (pos (suc m)) (negsuc n) = refl
up_is (negsuc m) (negsuc n) = not_below (ltb (suc m) (suc n)) (suc n - suc (suc m)) (suc m - suc n) ∙ rw (← leb-suc-suc n m, leb_not (suc n) (suc m))

module _ {a b : ℤ} (fa : SFits w16 a) (fb : SFits w16 b) where
  pub less_is : {n : ℕ} → n ≡ nat_abs (to_z w16 (of_z w16 b) -ℤ to_z w16 (of_z w16 a)) →
      ◌≡◌ {A = Difference} (record { up = le_z (to_z w16 (of_z w16 a)) (to_z w16 (of_z w16 b)); size = n }) (difference_of (b -ℤ a))
  less_is e = rw (e, copied fa, copied fb, up_is a b)
