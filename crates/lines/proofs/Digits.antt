-- The texts of numbers: decimal digits one by one, a shift as a power of 16, signs, NaNs. Assumes nothing.
use Prim.Native.Nat.{ℕ, zero, suc, ◌+◌, ◌-◌, ◌*◌, ◌/◌, ◌%◌, ◌^◌, ◌≤◌, ◌<◌}
use mathlib.Core.Bool.{Bool, true, false, not, true≢false}
use mathlib.Core.List.{List, [], ◌∷◌, ◌++◌}
use mathlib.Core.Path.{◌≡◌, refl, ap, ◌∙◌, sym}
use native.Mathlib.Omega.{arith}
use native.Mathlib.Nat.{pow-suc}
use borrow.Author.Tests.{lt-ltb, le-ltb, ltb-true, ltb-false, eq-eqb}
use lib.Dec.{T, ltb}
use lib.IntN.{ℤ, pos, negsuc, nat_abs}
use lib.Signed.{lt_z}
use lib.Ieee.{Float, binary64, nan, inf, fin, up, down, ne, eq, is_nan, to_bits}
use lib.Pow.{pow-add}
use Rattle.lines.specs.Text.{glyph_of, last_after, decimal_in, decimal_of, signed_of, hex_from, bits_of, hex_of}

-- steps that are enough give the same digits
enough : (j k n : ℕ) → n < j → n < k → decimal_in j n ≡ decimal_in k n
unfolding decimal_in
enough zero k n hj hk = absurd (omega arith)
enough (suc j) zero n hj hk = absurd (omega arith)
enough (suc j) (suc k) n hj hk = by (ltb n 10) refl (λ a b. enough j k (n / 10) a b)
  where
    by : (t : Bool) → ltb n 10 ≡ t → (n / 10 < j → n / 10 < k → decimal_in j (n / 10) ≡ decimal_in k (n / 10)) → last_after t n (decimal_in j (n / 10)) ≡ last_after t n (decimal_in k (n / 10))
    by true h front = refl
    by false h front =
        let tens = ltb-false n 10 h in
        ap (λ (l : List ℕ). l ++ ((48 + n % 10) ∷ [])) (front (omega arith) (omega arith))

pub one_digit : (n : ℕ) → n < 10 → decimal_of n ≡ (48 + n) ∷ []
unfolding decimal_of decimal_in
one_digit n h = rw (lt-ltb n 10 h)

pub more_digits : (n : ℕ) → 10 ≤ n → decimal_of n ≡ decimal_of (n / 10) ++ ((48 + n % 10) ∷ [])
unfolding decimal_of decimal_in
more_digits n h = rw (le-ltb n 10 h) (ap (λ (l : List ℕ). l ++ ((48 + n % 10) ∷ [])) (enough n (suc (n / 10)) (n / 10) (omega arith) (omega arith)))

-- four bits to a digit
pub fours : (k : ℕ) → 2 ^ (4 * k) ≡ 16 ^ k
fours zero = refl
fours (suc k) =
    let e : 4 * suc k ≡ 4 * k + 4 = omega arith in
    ap (λ (j : ℕ). 2 ^ j) e ∙ pow-add 2 (4 * k) 4 ∙ ap (λ (x : ℕ). x * 16) (fours k) ∙ sym (pow-suc 16 k)

pub hex_next : (k b : ℕ) → 0 < k → hex_from k b ≡ glyph_of (b / 2 ^ (4 * (k - 1)) % 16) ∷ hex_from (k - 1) b
unfolding hex_from
hex_next zero b h = absurd (omega arith)
hex_next (suc k) b h =
    let e : suc k - 1 ≡ k = omega arith in
    rw (e, fours k)

-- ---- the texts of a signed number and of a float

below : (v : ℤ) → lt_z v (pos 0) ≡ true → signed_of v ≡ 45 ∷ decimal_of (nat_abs v)
unfolding signed_of
below (pos n) e =
    let no = ltb-true n 0 e in
    absurd (omega arith)
below (negsuc n) e = refl

from : (v : ℤ) → lt_z v (pos 0) ≡ false → signed_of v ≡ decimal_of (nat_abs v)
unfolding signed_of
from (pos n) e = refl
from (negsuc n) e = absurd (true≢false e)

-- z is v as the code reads it back from its bits
module _ {v z : ℤ} {n : ℕ} (b : z ≡ v) where
  pub below_zero_lem : lt_z z (pos 0) ≡ true → n ≡ nat_abs z → signed_of v ≡ 45 ∷ decimal_of n
  below_zero_lem e m = rw (m, b, below v (rw b at e))

  pub from_zero_lem : lt_z z (pos 0) ≡ false → n ≡ nat_abs z → signed_of v ≡ decimal_of n
  from_zero_lem e m = rw (m, b, from v (rw b at e))

-- a number that is no NaN equals itself
same : (x : Float) → is_nan x ≡ false → ne x x ≡ false
unfolding ne eq is_nan
same nan e = absurd (true≢false e)
same (inf true) e = refl
same (inf false) e = refl
same (fin true m k) e = rw (eq-eqb (m * up k * down k) (m * up k * down k) refl)
same (fin false m k) e = rw (eq-eqb (m * up k * down k) (m * up k * down k) refl)

pub a_nan : (x : Float) → ne x x ≡ true → hex_of x ≡ hex_from 16 0x7ff8_0000_0000_0000
unfolding hex_of bits_of is_nan
a_nan nan e = refl
a_nan (inf s) e = absurd (true≢false (sym e ∙ same (inf s) refl))
a_nan (fin s m k) e = absurd (true≢false (sym e ∙ same (fin s m k) refl))

pub no_nan : (x : Float) → ne x x ≡ false → T (not (is_nan x))
unfolding ne eq is_nan
no_nan nan e = absurd (true≢false e)
no_nan (inf s) e = tt
no_nan (fin s m k) e = tt

pub its_bits : (x : Float) → ne x x ≡ false → hex_of x ≡ hex_from 16 (to_bits binary64 x)
unfolding hex_of bits_of ne eq
its_bits nan e = absurd (true≢false e)
its_bits (inf s) e = refl
its_bits (fin s m k) e = refl
