-- `trunc`, `floor` and `round`. Each takes y = |x|. Where y is below 2 ^ 52, x is finite and the code makes a whole number n below 2 ^ 53; everywhere else x comes back.
-- Assumes nothing.
use Rattle.std.proofs.Common.{◌≡◌, ℕ, zero, suc, ◌+◌, ◌-◌, ◌*◌, ◌/◌, ◌^◌, ◌<◌, ◌≤◌, min, Bool, true, false, cond, T, ltb, ℤ, pos, negsuc, sym, refl, ap, ◌∙◌, subst, true≢false, lt_of_lt_of_le, add-zero, mul-le-mul_right, zero-lt-suc, mul_assoc, mul_comm, div-lt_iff_lt-mul, lt_of_mul-lt-mul_right, mul-lt-mul_of_pos_right, mul-pos, pow-suc, mul-one, mul_right_comm, div-one, mul_left_comm, arith, lit<, lit≤, le→leb, eqb→eq, lt→ltb, pow_pos, pow-add, ltb-false, ltb-true}
use native.Mathlib.Nat.{add-div_right, div-div-eq-div-mul}
use mathlib.Core.Bool.{false≢true}
use lib.Ieee.{Float, nan, inf, fin, binary64, up, down, lt, neg, mul, fits, odd, units, round, of_int, in_float, to_unsigned}
use lib.Ieee.Fits.{up_pos, down_pos, round_is}
use lib.Ieee.Exact.{HasValue, round_exact}
use lib.Ieee.Nearest.{div_same}
use Rattle.float.specs.Float.{abs_of, cut, to_zero, downward, to_nearest, whole_by}
use Rattle.float.specs.Steps.{with_sign}
use Rattle.float.proofs.Fitting.{fits_says, below_prec, down_in, place}
use Rattle.float.proofs.Own.{itself}
use Rattle.float.proofs.Saturate.{cut_lt}

-- ---- 2 ^ 52, and the test y < 2 ^ 52
abbrev pub limit : Float
limit = fin false 1 (pos 52)

abbrev pub Small : Float → Type 0
Small x = lt (abs_of x) limit ≡ true

-- what the rule r makes of x's magnitude, under the sign s
abbrev pub at : (Bool → ℕ → ℤ → ℕ) → Bool → Float → ℕ
at r s nan = 0
at r s (inf u) = 0
at r s (fin u m e) = r s m e

nan_large : Small nan → ⊥
unfolding lt abs_of
nan_large h = false≢true h

inf_large : (s : Bool) → Small (inf s) → ⊥
unfolding lt abs_of
inf_large s h = false≢true h

-- the tests of a finite x, as facts of numbers
small_is : (s : Bool) (m : ℕ) (e : ℤ) → Small (fin s m e) → m * up e * 1 < 2 ^ 52 * down e
unfolding lt abs_of
small_is s m e h = ltb-true (m * up e * 1) (2 ^ 52 * down e) h

large_is : (s : Bool) (m : ℕ) (e : ℤ) → lt (abs_of (fin s m e)) limit ≡ false → 2 ^ 52 * down e ≤ m * up e * 1
unfolding lt abs_of
large_is s m e h = ltb-false (m * up e * 1) (2 ^ 52 * down e) h

-- ---- the sign of a whole number
neg_cond : (b : Bool) (d q k l : ℕ) → neg (cond b (odd d false q k l) (inf false)) ≡ cond b (odd d true q k l) (inf true)
unfolding neg odd
neg_cond true d zero k l = refl
neg_cond true d (suc q) k l = refl
neg_cond false d q k l = refl

neg_units : (q k : ℕ) → neg (units binary64 false q k) ≡ units binary64 true q k
unfolding units
neg_units q k = neg_cond (ltb (q * 2 ^ k) (2 ^ 2098)) 54 q k 1074

neg_round : (n : ℕ) → neg (round binary64 false n 1) ≡ round binary64 true n 1
neg_round n = ap neg (round_is binary64 false n 1) ∙ neg_units _ _ ∙ sym (round_is binary64 true n 1)

neg_whole : (n : ℕ) → neg (of_int binary64 (pos n)) ≡ round binary64 true n 1
unfolding of_int
neg_whole n = neg_round n

pos_whole : (n : ℕ) → of_int binary64 (pos n) ≡ round binary64 false n 1
unfolding of_int
pos_whole n = refl

-- the three arms of `with_sign`
above_zero : (m : ℕ) (e : ℤ) → 0 < suc m * up e
above_zero m e = mul-pos (zero-lt-suc m) (up_pos e)

pub negative : (x : Float) (n : ℕ) → lt x (fin false 0 (pos 0)) ≡ true → neg (of_int binary64 (pos n)) ≡ with_sign n x
unfolding lt with_sign
negative nan n h = absurd (false≢true h)
negative (inf true) n h = neg_whole n
negative (inf false) n h = absurd (false≢true h)
negative (fin true zero e) n h = absurd (omega (arith, ltb-true 0 (0 * up e * 1 + 0 * down e) h))
negative (fin true (suc m) e) n h = neg_whole n
negative (fin false m e) n h = absurd (omega (arith, ltb-true (m * up e * 1) (0 * down e) h))

pub positive : (x : Float) (n : ℕ) → lt (fin false 0 (pos 0)) x ≡ true → of_int binary64 (pos n) ≡ with_sign n x
unfolding lt with_sign
positive nan n h = absurd (false≢true h)
positive (inf true) n h = absurd (false≢true h)
positive (inf false) n h = pos_whole n
positive (fin true m e) n h = absurd (false≢true h)
positive (fin false zero e) n h = absurd (omega (arith, ltb-true (0 * down e) (0 * up e * 1) h))
positive (fin false (suc m) e) n h = pos_whole n

pub neither : (x : Float) (n : ℕ) → lt x (fin false 0 (pos 0)) ≡ false → lt (fin false 0 (pos 0)) x ≡ false → x ≡ with_sign n x
unfolding lt with_sign
neither nan n h k = refl
neither (inf true) n h k = absurd (true≢false h)
neither (inf false) n h k = absurd (true≢false k)
neither (fin s zero e) n h k = refl
neither (fin true (suc m) e) n h k = absurd (omega (arith, above_zero m e, ltb-false 0 (suc m * up e * 1 + 0 * down e) h))
neither (fin false (suc m) e) n h k = absurd (omega (arith, above_zero m e, ltb-false (0 * down e) (suc m * up e * 1) k))

-- ---- where x comes back: it is written with an exponent of 0 or more
module _ (r : Bool → ℕ → ℤ → ℕ) (flat : (s : Bool) (m k : ℕ) → r s m (pos k) ≡ m * 2 ^ k) where
  same : (s : Bool) (m k : ℕ) → T (fits binary64 (fin s m (pos k))) → fin s m (pos k) ≡ whole_by r (fin s m (pos k))
  unfolding whole_by
  same s m k f = sym (ap (λ (n : ℕ). round binary64 s n 1) (flat s m k) ∙ itself s m (pos k) f)

  -- a zero that fits has the exponent 0
  zero_stays : (s : Bool) (e : ℤ) → T (fits binary64 (fin s 0 e)) → fin s 0 e ≡ whole_by r (fin s 0 e)
  unfolding fits
  zero_stays s (pos k) f = same s 0 k f
  zero_stays s (negsuc k) f = absurd (omega (arith, eqb→eq (1 * 2 ^ suc k) 1 f, pow-suc 2 k, pow_pos k))

  -- from 2 ^ 52 on there is no fraction
  pub large_stays : (x : Float) → T (fits binary64 x) → lt (abs_of x) limit ≡ false → x ≡ whole_by r x
  unfolding whole_by
  large_stays nan f h = refl
  large_stays (inf s) f h = refl
  large_stays (fin s m (pos k)) f h = same s m k f
  large_stays (fin s zero (negsuc k)) f h = absurd (omega (arith, large_is s zero (negsuc k) h, pow_pos (suc k)))
  large_stays (fin s (suc m) (negsuc k)) f h = absurd (omega (arith, large_is s (suc m) (negsuc k) h, (fits_says s m (negsuc k) f).0, pow-suc 2 k, pow_pos k))

  -- where n is the whole number that the rule makes of |x|
  pub signed : (x : Float) (n : ℕ) → T (fits binary64 x) → Small x → ((s : Bool) → n ≡ at r s x) → with_sign n x ≡ whole_by r x
  unfolding with_sign whole_by
  signed nan n f t e = refl
  signed (inf s) n f t e = absurd (inf_large s t)
  signed (fin s zero d) n f t e = zero_stays s d f
  signed (fin s (suc m) d) n f t e = ap (λ (k : ℕ). round binary64 s k 1) (e s)

-- ---- the code's whole numbers
-- the call: y is above -1 and below 2 ^ 64
pub above_u64 : (x : Float) → Small x → T (lt (fin true 1 (pos 0)) (abs_of x))
unfolding lt abs_of
above_u64 nan t = absurd (false≢true t)
above_u64 (inf s) t = tt
above_u64 (fin s m e) t = lt→ltb 0 (1 * down e + m * up e * 1) (omega (arith, down_pos e))

pub below_u64 : (x : Float) → Small x → T (lt (abs_of x) (fin false 1 (pos 64)))
unfolding lt abs_of
below_u64 nan t = absurd (false≢true t)
below_u64 (inf s) t = absurd (false≢true t)
below_u64 (fin s m e) t = lt→ltb (m * up e * 1) (2 ^ 64 * down e) (omega (arith, small_is s m e t, down_pos e))

uncapped : (c : ℕ) → c < 2 ^ 53 → min c (2 ^ 64 - 1) ≡ c
uncapped c h = omega arith

under : (c : ℕ) → c < 2 ^ 52 → c < 2 ^ 53
under c h = omega arith

-- y cut
pub cut_is : (s : Bool) (x : Float) → Small x → to_unsigned 64 (abs_of x) ≡ at to_zero s x
unfolding lt abs_of to_unsigned
cut_is s nan t = refl
cut_is s (inf u) t = absurd (false≢true t)
cut_is s (fin u m e) t = uncapped (cut m e) (under (cut m e) (cut_lt m (2 ^ 52) e (small_is u m e t)))

pub cut_small : (x : Float) → Small x → to_unsigned 64 (abs_of x) < 2 ^ 52
unfolding lt abs_of to_unsigned
cut_small nan t = lit< tt
cut_small (inf u) t = absurd (false≢true t)
cut_small (fin u m e) t = subst (λ (n : ℕ). n < 2 ^ 52) (sym (cut_is u (fin u m e) t)) (cut_lt m (2 ^ 52) e (small_is u m e t))

-- a number up to 2 ^ 53 as a float
pub exact : (n : ℕ) → n ≤ 2 ^ 53 → T (in_float binary64 (pos n))
unfolding in_float
exact n h = le→leb n (2 ^ 53) h

pub flat_zero : (s : Bool) (m k : ℕ) → to_zero s m (pos k) ≡ m * 2 ^ k
flat_zero s m k = div-one (m * 2 ^ k)

pub flat_down : (s : Bool) (m k : ℕ) → downward s m (pos k) ≡ m * 2 ^ k
flat_down false m k = div-one (m * 2 ^ k)
flat_down true m k = div-one (m * 2 ^ k + 0) ∙ add-zero (m * 2 ^ k)

-- ---- `round`: half of one more than 2 * y, cut
pub flat_near : (s : Bool) (m k : ℕ) → to_nearest s m (pos k) ≡ m * 2 ^ k
flat_near s m k = omega arith

halved : (a d : ℕ) → 0 < d → (a * 2 / d + 1) / 2 ≡ (2 * a + d) / (2 * d)
halved a d p = ap (λ (k : ℕ). k / 2) (sym (add-div_right (a * 2) p)) ∙ div-div-eq-div-mul (a * 2 + d) d 2 ∙ ap (λ (k : ℕ). k / (d * 2)) (ap (λ (k : ℕ). k + d) (mul_comm a 2)) ∙ ap (λ (k : ℕ). (2 * a + d) / k) (mul_comm d 2)

-- 2 * y is exact
twice : (s : Bool) (m : ℕ) (e : ℤ) → T (fits binary64 (fin s m e)) → Small (fin s m e) → HasValue (mul binary64 (fin false m e) (fin false 1 (pos 1))) false (m * up e * 2) (down e * 1)
unfolding mul
twice s m e f t =
    let p = place e (down_in s m e f) in
    let j = p.0 in
    let same : m * up e * 2 * 2 ^ 1074 ≡ m * 2 ^ (j + 1) * (down e * 1) = regroup m (up e) (2 ^ 1074) (2 ^ j) (down e) p.1 ∙ ap (λ (k : ℕ). m * k * (down e * 1)) (sym (pow-add 2 j 1)) in
    let less : m * up e * 2 < 2 ^ 53 * down e = omega (arith, small_is s m e t) in
    round_exact binary64 false (m * up e * 2) (down e * 1) m (j + 1) (omega (arith, down_pos e)) (below_prec s m e f)
    (lt_of_mul-lt-mul_right (down e * 1)
    (subst (λ (k : ℕ). k < 2 ^ 2098 * (down e * 1)) same
    (lt_of_lt_of_le (mul-lt-mul_of_pos_right less (pow_pos 1074)) (room (down e)))))
    same
  where
    regroup : (m u k p d : ℕ) → u * k ≡ p * d → m * u * 2 * k ≡ m * (p * 2) * (d * 1)
    regroup m u k p d h = mul_right_comm (m * u) 2 k ∙ ap (λ (n : ℕ). n * 2) (mul_assoc m u k ∙ ap (λ (n : ℕ). m * n) h) ∙ simp (mul-one, mul_assoc, mul_comm, mul_left_comm)

    room : (d : ℕ) → 2 ^ 53 * d * 2 ^ 1074 ≤ 2 ^ 2098 * (d * 1)
    room d = subst (λ (n : ℕ). 2 ^ 53 * d * 2 ^ 1074 ≤ 2 ^ 2098 * n) (sym (mul-one d)) (subst (λ (n : ℕ). n ≤ 2 ^ 2098 * d) (mul_right_comm (2 ^ 53) (2 ^ 1074) d) (mul-le-mul_right d (lit≤ tt)))

-- z is a / d, and below 2 ^ 53: the call's requirement, and its result
value_cut : (z : Float) (a d : ℕ) → 0 < d → HasValue z false a d → a < 2 ^ 53 * d
    → T (lt (fin true 1 (pos 0)) z) × T (lt z (fin false 1 (pos 64))) × (to_unsigned 64 z ≡ a / d)
unfolding lt to_unsigned
value_cut (fin true m e) a d p v h = absurd (true≢false v.0)
value_cut (fin false m e) a d p v h =
    let same : cut m e ≡ a / d = div_same (m * up e) (down e) a d (down_pos e) p v.1 in
    let less : cut m e < 2 ^ 53 = subst (λ (k : ℕ). k < 2 ^ 53) (sym same) ((div-lt_iff_lt-mul p).1 h) in
    let y : m * up e < 2 ^ 53 * down e = (div-lt_iff_lt-mul (down_pos e)).0 less in (
      lt→ltb 0 (1 * down e + m * up e * 1) (omega (arith, down_pos e)),
      lt→ltb (m * up e * 1) (2 ^ 64 * down e) (omega (arith, down_pos e)),
      uncapped (cut m e) less ∙ same,
    )
value_cut nan a d p v h = elim v [ ]
value_cut (inf _) a d p v h = elim v [ ]

-- the call on 2 * y: what it asks, that its result is below 2 ^ 53, and what half of one more than its result is
abbrev pub two : Float
two = fin false 1 (pos 1)

pub record Near (x : Float) : Type 0 where
  pub above : T (lt (fin true 1 (pos 0)) (mul binary64 (abs_of x) two))
  pub below : T (lt (mul binary64 (abs_of x) two) (fin false 1 (pos 64)))
  pub small : to_unsigned 64 (mul binary64 (abs_of x) two) < 2 ^ 53
  pub half : (s : Bool) → (to_unsigned 64 (mul binary64 (abs_of x) two) + 1) / 2 ≡ at to_nearest s x

pub near_call : (x : Float) → T (fits binary64 x) → Small x → Near x
unfolding abs_of
near_call nan f t = absurd (nan_large t)
near_call (inf s) f t = absurd (inf_large s t)
near_call (fin s m e) f t =
    let z = mul binary64 (fin false m e) (fin false 1 (pos 1)) in
    let p : 0 < down e * 1 = omega (arith, down_pos e) in
    let less : m * up e * 2 < 2 ^ 53 * (down e * 1) = omega (arith, small_is s m e t) in
    let v = value_cut z (m * up e * 2) (down e * 1) p (twice s m e f t) less in
    record {
      above = v.0;
      below = v.1;
      small = subst (λ (k : ℕ). k < 2 ^ 53) (sym v.2) ((div-lt_iff_lt-mul p).1 less);
      half = λ u. ap (λ (k : ℕ). (k + 1) / 2) (v.2 ∙ ap (λ (k : ℕ). m * up e * 2 / k) (mul-one (down e))) ∙ halved (m * up e) (down e) (down_pos e);
    }
