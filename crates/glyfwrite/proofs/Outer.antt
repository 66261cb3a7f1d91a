-- The greatest of a row and the least, and signed words. Assumes nothing.
use Prim.Native.Nat.{ℕ, suc, ◌+◌, ◌-◌, ◌≤◌, ◌<◌}
use mathlib.Core.Bool.{Bool, true, false}
use mathlib.Core.List.{List, [], ◌∷◌, map}
use mathlib.Core.Path.{◌≡◌, refl, ◌∙◌}
use native.Mathlib.Omega.{arith}
use native.Mathlib.Numerals.{add-one}
use lib.Dec.{leb-zero}
use lib.IntN.{ℤ, pos, negsuc, ◌-ℤ◌, +ℤ_idr}
use lib.ListN.{length, get_or, drop, drop_of_length-le}
use lib.Seq.{drop-cons}
use Rattle.glyf.specs.Layout.{unsigned, signed_bytes, box_of, least, greatest, least_from, greatest_from, joined}
use Rattle.glyfwrite.specs.Differences.{difference_of, long_by}
use Rattle.glyfwrite.specs.Outermost.{further, outermost_from, outermost}
use Rattle.glyfwrite.specs.Puts.{Put}
use Rattle.glyfwrite.specs.declared.difference.Difference.{Difference}
use Rattle.std.specs.Int.{int_max, int_min}
use Rattle.glyfwrite.proofs.Orders.{max_is, min_is}
use Rattle.glyfwrite.proofs.Putting.{then}

-- ---- the further of two

module _ {high : Bool} (z x : ℤ) where
  pub greater_is : high ≡ true → int_max z x ≡ further high z x
  unfolding further
  greater_is e = rw e (max_is z x)

  pub lesser_is : high ≡ false → int_min z x ≡ further high z x
  unfolding further
  lesser_is e = rw e (min_is z x)

-- ---- a row

pub none : (high : Bool) (row : List ℤ) → length row ≡ 0 → pos 0 ≡ outermost high row
unfolding outermost least greatest
none true [] h = refl
none false [] h = refl
none high (x ∷ row) h = absurd (omega arith)

pub first : (high : Bool) (row : List ℤ) → (length row ≡ 0 → ⊥) → {z : ℤ} → z ≡ get_or row 0 (pos 0) → outermost high row ≡ outermost_from high z (drop 1 row)
unfolding outermost outermost_from least greatest
first high [] h e = absurd (h refl)
first true (x ∷ row) h e = rw e
first false (x ∷ row) h e = rw e

pub next : (high : Bool) (row : List ℤ) (i : ℕ) (z : ℤ) → i < length row → {x w : ℤ} → x ≡ get_or row i (pos 0) → w ≡ further high z x →
    outermost_from high z (drop i row) ≡ outermost_from high w (drop (i + 1) row)
unfolding outermost_from further least_from greatest_from
next true row i z h e f = rw (add-one, drop-cons row i (pos 0) h, f, e)
next false row i z h e f = rw (add-one, drop-cons row i (pos 0) h, f, e)

pub last : (high : Bool) (row : List ℤ) (i : ℕ) (z : ℤ) → length row ≤ i → outermost_from high z (drop i row) ≡ z
unfolding outermost_from least_from greatest_from
last true row i z h = rw (drop_of_length-le row h)
last false row i z h = rw (drop_of_length-le row h)

-- ---- signed words

signed_is : (z : ℤ) → long_by (difference_of z).up (difference_of z).size ≡ unsigned z
signed_is (pos n) = rw (leb-zero n)
signed_is (negsuc n) = let e : suc n - 1 ≡ n = omega arith in rw e

pub signed_word : {z y : ℤ} {d : Difference} {v : ℕ} → y ≡ z → d ≡ difference_of (y -ℤ pos 0) → v ≡ long_by d.up d.size → v ≡ unsigned z
signed_word {z} {y} {d} {v} e f g = g ∙ rw (f, e, +ℤ_idr) (signed_is z)

pub box_put : (xs ys : List ℤ) {a b c d : ℤ} {out o₁ o₂ o₃ out' : List ℕ} {at r₁ r₂ r₃ r : ℕ} → a ≡ outermost false xs → b ≡ outermost false ys → c ≡ outermost true xs →
    d ≡ outermost true ys →
    Put out at (signed_bytes a) o₁ r₁ → Put o₁ r₁ (signed_bytes b) o₂ r₂ → Put o₂ r₂ (signed_bytes c) o₃ r₃ → Put o₃ r₃ (signed_bytes d) out' r →
    Put out at (joined (map signed_bytes (box_of xs ys))) out' r
unfolding joined outermost
box_put xs ys ea eb ec ed p q s t = rw (← ea, ← eb, ← ec, ← ed) (then p (then q (then s t)))
