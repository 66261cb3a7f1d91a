-- Bit patterns: which are a NaN's, and which float a normal f64's is. Assumes nothing.
use Rattle.std.proofs.Common.{◌≡◌, ℕ, suc, ◌+◌, ◌-◌, ◌*◌, ◌/◌, ◌%◌, ◌^◌, ◌<◌, ◌≤◌, Bool, false, cond, not, T, eqb, leb, sym, refl, ap, ◌∙◌, subst, arith, le-ltb, lt-ltb, ne_eqb}
use borrow.Author.Tests.{lt-leb}
use lib.Ieee.{nan, inf, binary64, odd, of_fields, of_bits, nan_bits}
use lib.Ieee.Bits.{nan_bits_is, nan_bits_above}
use Rattle.float.proofs.Number.{only_nan}

-- ---- a NaN's pattern, its sign left out, is above that of the infinity
pub no_nan : (b : ℕ) → b % 2 ^ 63 ≤ 2047 * 2 ^ 52 → T (not (nan_bits binary64 b))
no_nan b h = subst (λ (t : Bool). T (not t)) (sym (nan_bits_above binary64 b ∙ le-ltb (2047 * 2 ^ 52) (b % 2 ^ 63) h)) tt

pub is_nan_lem : (b : ℕ) → 2047 * 2 ^ 52 < b % 2 ^ 63 → nan ≡ of_bits binary64 b
is_nan_lem b h = sym (only_nan (of_bits binary64 b) (sym (nan_bits_is binary64 b) ∙ nan_bits_above binary64 b ∙ lt-ltb (2047 * 2 ^ 52) (b % 2 ^ 63) h))

-- ---- a normal f64
pub of_bits_is : (b : ℕ) → of_bits binary64 b ≡ of_fields binary64 (leb (2 ^ 63) b) (b % 2 ^ 63 / 2 ^ 52) (b % 2 ^ 52)
unfolding of_bits
of_bits_is b = refl

pub above_low : (s : Bool) (x t : ℕ) → x < 2046 → of_fields binary64 s (suc x) t ≡ odd 53 s (2 ^ 52 + t) x 1074
unfolding of_fields
above_low s x t h = ap (λ (b : Bool). cond b (cond (eqb t 0) (inf s) nan) (odd 53 s (2 ^ 52 + t) x 1074)) (ne_eqb (suc x) 2047 (λ e. omega arith))

-- p * 2 ^ x smallest values, for a p of 53 digits: the leading one adds one to the exponent's field
module _ (x p : ℕ) (few : x < 2046) (lo : 2 ^ 52 ≤ p) (hi : p < 2 ^ 53) where
  pub pattern : of_bits binary64 (x * 2 ^ 52 + p) ≡ odd 53 false p x 1074
  pattern =
      let b = x * 2 ^ 52 + p in
      let field : b % 2 ^ 63 / 2 ^ 52 ≡ suc x = omega arith in
      let digits : b % 2 ^ 52 ≡ p - 2 ^ 52 = omega arith in
      let all : 2 ^ 52 + (p - 2 ^ 52) ≡ p = omega arith in
      of_bits_is b
      ∙ ap (λ (s : Bool). of_fields binary64 s (b % 2 ^ 63 / 2 ^ 52) (b % 2 ^ 52)) (lt-leb (2 ^ 63) b (omega arith))
      ∙ ap (λ (k : ℕ). of_fields binary64 false k (b % 2 ^ 52)) field
      ∙ ap (λ (t : ℕ). of_fields binary64 false (suc x) t) digits
      ∙ above_low false x (p - 2 ^ 52) few
      ∙ ap (λ (q : ℕ). odd 53 false q x 1074) all
