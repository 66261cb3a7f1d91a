-- A difference as the code has it, by its bits, bytes and fit, and as Layout has it. Assumes nothing.
use Prim.Native.Nat.{ℕ, suc, ◌+◌, ◌-◌, ◌≤◌, ◌<◌}
use mathlib.Core.Bool.{Bool, true, false, ◌&&◌}
use mathlib.Core.List.{List, [], ◌∷◌, ◌++◌, map}
use mathlib.Core.Path.{◌≡◌, refl, sym, ◌∙◌}
use native.Mathlib.Omega.{arith}
use native.Mathlib.Numerals.{add-one}
use borrow.Author.Tests.{eq-eqb, ne_eqb, le-leb, lt-leb}
use lib.Dec.{leb, eqb, leb-suc-suc, leb-zero}
use lib.IntN.{ℤ, pos, negsuc, ◌-ℤ◌}
use lib.ListN.{length, get_or, drop, drop_of_length-le}
use lib.Seq.{drop-cons}
use Rattle.glyf.specs.Layout.{bits_of, code_of, code_by, Size, still, small, large, size_if, in16, all16, steps, joined}
use Rattle.glyfwrite.specs.Differences.{difference_of, sized, bits_in, coded_by, code_in, fits_by}
use Rattle.glyfwrite.specs.declared.difference.Difference.{Difference}

-- ---- its three sizes

module _ (d : Difference) where
  pub is_still : d.size ≡ 0 → sized d ≡ still
  is_still e = rw (eq-eqb d.size 0 e)

  pub is_small : (d.size ≡ 0 → ⊥) → d.size ≤ 255 → sized d ≡ small
  is_small n h = rw (ne_eqb d.size 0 n, le-leb d.size 255 h)

  pub is_large : (d.size ≡ 0 → ⊥) → 255 < d.size → sized d ≡ large
  is_large n h = rw (ne_eqb d.size 0 n, lt-leb d.size 255 h)

-- ---- as Layout has them

pub same_bits : (short same : ℕ) (z : ℤ) → bits_in short same (difference_of z) ≡ bits_of short same z
unfolding bits_in bits_of
same_bits short same z = refl

same_code : (z : ℤ) → code_in (difference_of z) ≡ code_of z
unfolding code_in code_of
same_code (pos n) = by (size_if (eqb n 0) (leb n 255))
  where
    by : (s : Size) → coded_by s (difference_of (pos n)) ≡ code_by s (pos n)
    by still = refl
    by small = refl
    by large = rw (leb-zero n)
same_code (negsuc n) = by (size_if (eqb (suc n) 0) (leb (suc n) 255))
  where
    by : (s : Size) → coded_by s (difference_of (negsuc n)) ≡ code_by s (negsuc n)
    by still = refl
    by small = refl
    by large = let e : suc n - 1 ≡ n = omega arith in rw e

and-true : (b : Bool) → (b && true) ≡ b
and-true true = refl
and-true false = refl

same_fit : (z : ℤ) → fits_by (difference_of z).up (difference_of z).size ≡ in16 z
same_fit (pos n) = rw (leb-zero n)
same_fit (negsuc n) = leb-suc-suc n 32767 ∙ sym (and-true (leb n 32767))

-- ---- the next coordinate of a row, after `last`

module _ (row : List ℤ) (i : ℕ) (last : ℤ) (h : i < length row) {z : ℤ} (here : z ≡ get_or row i (pos 0)) where
  next_step : steps last (drop i row) ≡ (z -ℤ last) ∷ steps z (drop (i + 1) row)
  unfolding steps
  next_step = rw (add-one, here, drop-cons row i (pos 0) h)

  pub next_code : {d : Difference} → d ≡ difference_of (z -ℤ last) →
      joined (map code_of (steps last (drop i row))) ≡ code_in d ++ joined (map code_of (steps z (drop (i + 1) row)))
  unfolding joined
  next_code e = rw (next_step, e, same_code)

  pub next_fits : {d : Difference} {b : Bool} → d ≡ difference_of (z -ℤ last) → b ≡ fits_by d.up d.size →
      all16 (steps last (drop i row)) ≡ (b && all16 (steps z (drop (i + 1) row)))
  unfolding all16
  next_fits e f = rw (next_step, f, e, same_fit)

pub no_steps : (row : List ℤ) (i : ℕ) (last : ℤ) → length row ≤ i → all16 (steps last (drop i row)) ≡ true
unfolding all16 steps
no_steps row i last h = rw (drop_of_length-le row h)

pub no_codes : (row : List ℤ) (i : ℕ) (last : ℤ) → length row ≤ i → joined (map code_of (steps last (drop i row))) ≡ []
unfolding joined steps
no_codes row i last h = rw (drop_of_length-le row h)
