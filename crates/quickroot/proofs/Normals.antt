-- The pattern of an f64 above zero, and what the digits of a root are the root of, where that is a normal one. Assumes nothing.
use Rattle.std.proofs.Common.{◌≡◌, ℕ, zero, suc, ◌+◌, ◌-◌, ◌*◌, ◌/◌, ◌%◌, ◌^◌, ◌<◌, ◌≤◌, true, false, T, pos, sym, refl, ap, ◌∙◌, le_trans, lt_of_lt_of_le, le_of_suc-le-suc, lt_of_not-le, not-le_of_lt, arith, pow_mono}
use mathlib.Core.Bool.{false≢true}
use lib.Count.{count_leading_zeros, leading_top}
use lib.Ieee.{Float, nan, inf, fin, binary64, lt, fits, to_bits}
use Rattle.float.specs.Float.{root_of, root_near, root_units}
use Rattle.float.specs.Steps.{scaled}
use Rattle.float.proofs.Read.{Read, read_bits}
use Rattle.float.proofs.Scaled.{word, half, leaves}
use Rattle.quickroot.specs.Quick.{PatternOf, IsNormal}

-- ---- the pattern
of_read : (x : Float) (b : ℕ) → Read x b → PatternOf x b
of_read x b r = record { bounded = omega (arith, r.field); units = λ n. r.high (λ z. omega (arith, n.least)) }

inf_bits : to_bits binary64 (inf false) ≡ 2047 * 2 ^ 52
unfolding to_bits
inf_bits = refl

infinite : (b : ℕ) → b ≡ 2047 * 2 ^ 52 → PatternOf (inf false) b
infinite b e = record { bounded = omega arith; units = λ n. absurd (omega (arith, n.most)) }

pub above : (x : Float) → T (fits binary64 x) → lt (fin false 0 (pos 0)) x ≡ true → PatternOf x (to_bits binary64 x)
unfolding lt
above nan f h = absurd (false≢true h)
above (inf true) f h = absurd (false≢true h)
above (inf false) f h = infinite (to_bits binary64 (inf false)) inf_bits
above (fin true m e) f h = absurd (false≢true h)
above (fin false m e) f h = of_read (fin false m e) (to_bits binary64 (fin false m e)) (read_bits (fin false m e) f h refl)

pub not_above : (x : Float) → PatternOf x 0
not_above x = record { bounded = omega arith; units = λ n. absurd (omega (arith, n.least)) }

-- ---- a normal x has 53 digits m, and so 11 zeros before them
zeros : (m : ℕ) → 2 ^ 52 ≤ m → m < 2 ^ 53 → count_leading_zeros 64 m ≡ 11
zeros m lo hi =
    let t = leading_top 64 m (omega arith) (omega arith) in
    let j = t.0 in
    let under : j < 53 = lt_of_not-le (λ (g : 53 ≤ j). not-le_of_lt hi (le_trans (pow_mono g) t.2)) in
    let over : 52 ≤ j = le_of_suc-le-suc (lt_of_not-le (λ (g : suc j ≤ 52). not-le_of_lt (lt_of_lt_of_le t.3 (pow_mono g)) lo)) in
    omega (arith, t.1)

-- the word of `normalised`, by whether the number of digits is odd
by_parity : (m r : ℕ) → m < 2 ^ 53 → r < 2 → m * 2 ^ 11 % 2 ^ 64 / 2 ^ r * 2 ^ 42 ≡ m * 2 / 2 ^ r * 2 ^ 52
by_parity m zero h g = omega arith
by_parity m (suc zero) h g = omega arith
by_parity m (suc (suc r)) h g = absurd (omega arith)

module _ (m y : ℕ) (lo : 2 ^ 52 ≤ m) (hi : m < 2 ^ 53) (least : 0 < y) where
  odd_is : (64 - 11 + (y - 1)) % 2 ≡ y % 2
  odd_is = omega arith

  word_is : word m (y - 1) * 2 ^ 42 ≡ m * 2 / 2 ^ (y % 2) * 2 ^ 52
  word_is = rw (zeros m lo hi, odd_is) (by_parity m (y % 2) hi (omega arith))

  half_is : half m (y - 1) + 484 ≡ (y + 1021) / 2
  half_is = rw (zeros m lo hi) (omega arith)

  pub units_are : (p : ℕ) → y < 2047 → p ≡ root_near 53 (m * 2 / 2 ^ (y % 2) * 2 ^ 52) → scaled p ((y + 1021) / 2) ≡ root_units (m * 2 ^ (y - 1))
  units_are p few e =
      ap (λ (q : ℕ). scaled q ((y + 1021) / 2)) (e ∙ ap (root_near 53) (sym word_is))
      ∙ ap (scaled (root_near 53 (word m (y - 1) * 2 ^ 42))) (sym half_is)
      ∙ (leaves m (y - 1) (omega arith) hi (omega arith)).2

-- ---- the answer
pub root_is : (x : Float) (b p : ℕ) → PatternOf x b → IsNormal b → p ≡ root_near 53 ((b % 2 ^ 52 + 2 ^ 52) * 2 / 2 ^ (b / 2 ^ 52 % 2) * 2 ^ 52) →
    scaled p ((b / 2 ^ 52 + 1021) / 2) ≡ root_of x
root_is x b p of n e =
    units_are (b % 2 ^ 52 + 2 ^ 52) (b / 2 ^ 52) (omega arith) (omega arith) (omega (arith, n.least)) p (omega (arith, n.most)) e ∙ sym (of.units n)
