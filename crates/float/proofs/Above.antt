-- Above zero the whole number below x is x cut, as an f64. Assumes nothing.
use Rattle.std.proofs.Common.{◌≡◌, ℕ, ◌-◌, ◌*◌, ◌/◌, ◌^◌, ◌<◌, min, Bool, true, false, ℤ, pos, refl, arith}
use mathlib.Core.Bool.{false≢true}
use lib.Ieee.{Float, nan, inf, fin, binary64, lt, round, of_bits, of_int, to_unsigned, up, down}
use Rattle.float.specs.Float.{abs_of, cut, to_zero, downward, whole_by, trunc_of, floor_of}
use Rattle.float.specs.Numbers.{nought}

whole_of : (n : ℕ) → of_int binary64 (pos n) ≡ round binary64 false n 1
unfolding of_int
whole_of n = refl

cut_is : (m : ℕ) (e : ℤ) (b : ℕ) → b ≡ to_unsigned 64 (fin false m e) → b < 2 ^ 53 → cut m e ≡ b
unfolding to_unsigned
cut_is m e b p less =
    let q : b ≡ min (m * up e / down e) (2 ^ 64 - 1) = p in
    omega arith

-- for a rule that cuts what is not negative
module _ (r : Bool → ℕ → ℤ → ℕ) (cuts : (m : ℕ) (e : ℤ) → r false m e ≡ cut m e) where
  by_rule : (m : ℕ) (e : ℤ) → whole_by r (fin false m e) ≡ round binary64 false (cut m e) 1
  unfolding whole_by
  by_rule m e = rw cuts

  whole_above : (x : Float) (b : ℕ) → lt nought x ≡ true → b ≡ to_unsigned 64 x → b < 2 ^ 53 → of_int binary64 (pos b) ≡ whole_by r x
  unfolding lt of_bits to_unsigned
  whole_above nan b h p less = absurd (false≢true h)
  whole_above (inf true) b h p less = absurd (false≢true h)
  whole_above (inf false) b h p less = absurd (omega arith)
  whole_above (fin true m e) b h p less = absurd (false≢true h)
  whole_above (fin false m e) b h p less = rw (whole_of b, by_rule m e, cut_is m e b p less)

pub trunc_above : (x : Float) (b : ℕ) → lt nought x ≡ true → b ≡ to_unsigned 64 x → b < 2 ^ 53 → of_int binary64 (pos b) ≡ trunc_of x
trunc_above = whole_above to_zero (λ m e. refl)

pub floor_above : (x : Float) (b : ℕ) → lt nought x ≡ true → b ≡ to_unsigned 64 x → b < 2 ^ 53 → of_int binary64 (pos b) ≡ floor_of x
floor_above = whole_above downward (λ m e. refl)

-- it has no sign to lose
pub abs_above : (x : Float) → lt nought x ≡ true → abs_of x ≡ x
unfolding lt of_bits abs_of
abs_above nan h = absurd (false≢true h)
abs_above (inf true) h = absurd (false≢true h)
abs_above (inf false) h = refl
abs_above (fin true m e) h = absurd (false≢true h)
abs_above (fin false m e) h = refl
