-- A number cut to 16 bits is the one 16-bit number that is congruent to it modulo 2 ^ 16: the statements of specs/Modulo. Assumes nothing.
use Prim.Native.Nat.{ℕ, suc, ◌+◌, ◌-◌, ◌%◌, ◌^◌, ◌<◌}
use mathlib.Core.Bool.{Bool, true, false}
use mathlib.Core.Path.{◌≡◌, refl, sym, ap, ◌∙◌}
use native.Mathlib.Nat.{mod-eq_of_lt, mod-lt, add-mod_right}
use native.Mathlib.Omega.{arith}
use borrow.Author.Tests.{ltb-true, ltb-false}
use lib.Dec.{ltb}
use lib.IntN.{ℤ, pos, negsuc, ◌+ℤ◌}
use lib.Signed.{mag}
use Rattle.contour.specs.Implied.{mod16, signed_if, cut_of}
use Rattle.contour.specs.Modulo.{Remainder, CutIsCongruent}
use Rattle.contour.proofs.Sixteen.{cut_inside, cut_fits}

mod_period : (z : ℤ) → mod16 (z +ℤ pos 65536) ≡ mod16 z
mod_period (pos n) = add-mod_right n 65536
mod_period (negsuc n) = by (ltb 65536 (suc n)) refl
  where
    by : (b : Bool) → ltb 65536 (suc n) ≡ b → mod16 (negsuc n +ℤ pos 65536) ≡ mod16 (negsuc n)
    by true e =
        let more = ltb-true 65536 (suc n) e in
        let rest : suc n - suc 65536 + 65536 ≡ n = omega arith in
        rw e (ap (λ (m : ℕ). 65535 - m) (sym (add-mod_right (suc n - suc 65536) 65536) ∙ ap (λ (m : ℕ). m % 65536) rest))
    by false e =
        let less = ltb-false 65536 (suc n) e in
        rw (e, mod-eq_of_lt {n = 65536 - suc n} {m = 65536} (omega arith), mod-eq_of_lt {n = n} {m = 65536} (omega arith)) (omega arith)

pub remainder : Remainder
remainder = record { small = λ n h. mod-eq_of_lt h; period = mod_period }

-- cut to 16 bits, a number is the same modulo 2 ^ 16
congruent : (z : ℤ) → mod16 (cut_of z) ≡ mod16 z
unfolding cut_of
congruent z = by (ltb (mod16 z) (2 ^ 15)) (below z)
  where
    below : (y : ℤ) → mod16 y < 2 ^ 16
    below (pos n) = mod-lt n (omega arith)
    below (negsuc n) = omega arith

    by : (b : Bool) {m : ℕ} → m < 2 ^ 16 → mod16 (signed_if b m) ≡ m
    by true h = mod-eq_of_lt h
    by false {m} h = rw (mod-eq_of_lt {n = 65535 - m} {m = 65536} (omega arith)) (omega arith)

-- and no other 16-bit number is
only : (y z : ℤ) → mag y < 2 ^ 15 → mod16 y ≡ mod16 z → y ≡ cut_of z
unfolding cut_of
only y z h e = sym (cut_inside y h) ∙ ap (λ (m : ℕ). signed_if (ltb m (2 ^ 15)) m) e

pub cut_congruent : CutIsCongruent
cut_congruent z = record { fits = (cut_fits z).sfits; congruent = congruent z; only = λ y h e. only y z h e }
