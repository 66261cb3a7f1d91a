-- Tests of two numbers, turned round, and the greater and the lesser of two. Assumes nothing.
use Prim.Native.Nat.{ℕ}
use mathlib.Core.Bool.{Bool, true, false, cond, not}
use mathlib.Core.Path.{◌≡◌, refl, sym, ap}
use native.Mathlib.Omega.{arith}
use borrow.Author.Tests.{ltb-true, ltb-false, le-leb, lt-leb, leb-true, leb-false}
use lib.Dec.{leb, ltb}
use lib.IntN.{ℤ, pos, negsuc}
use lib.Signed.{lt_z, le_z}
use Rattle.std.specs.Int.{int_max, int_min}
use Rattle.glyf.specs.Layout.{pick}

pub leb_not : (m n : ℕ) → leb m n ≡ not (ltb n m)
leb_not m n = by (ltb n m) refl
  where
    by : (t : Bool) → ltb n m ≡ t → leb m n ≡ not t
    by true e = lt-leb m n (ltb-true n m e)
    by false e = le-leb m n (ltb-false n m e)

le_not : (a b : ℤ) → le_z a b ≡ not (lt_z b a)
le_not (pos m) (pos n) = leb_not m n
le_not (pos m) (negsuc n) = refl
le_not (negsuc m) (pos n) = refl
le_not (negsuc m) (negsuc n) = leb_not n m

-- where two are equal it does not matter which is picked
either : (m n : ℕ) {a b : ℤ} → (m ≡ n → a ≡ b) → cond (ltb m n) a b ≡ pick (leb m n) a b
either m n {a} {b} same = by (ltb m n) refl (leb m n) refl
  where
    by : (s : Bool) → ltb m n ≡ s → (t : Bool) → leb m n ≡ t → cond s a b ≡ pick t a b
    by true p true q = refl
    by true p false q = let less = ltb-true m n p in let more = leb-false m n q in absurd (omega arith)
    by false p true q = let least = ltb-false m n p in let most = leb-true m n q in sym (same (omega arith))
    by false p false q = refl

pub max_is : (z x : ℤ) → int_max z x ≡ pick (le_z x z) z x
max_is (pos m) (pos n) = either n m (λ e. ap pos (sym e))
max_is (pos m) (negsuc n) = refl
max_is (negsuc m) (pos n) = refl
max_is (negsuc m) (negsuc n) = either m n (λ e. ap negsuc e)

pub min_is : (z x : ℤ) → int_min z x ≡ pick (le_z z x) z x
min_is z x = rw (le_not z x) (by (lt_z x z))
  where
    by : (t : Bool) → cond t x z ≡ pick (not t) z x
    by true = refl
    by false = refl
