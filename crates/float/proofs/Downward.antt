-- `floor`, from the truncation t of x: a negative x with a fraction is below t, and its floor is t - 1, which is exact. Any other x has t for its floor. Assumes nothing.
use Rattle.std.proofs.Common.{◌≡◌, ℕ, ◌+◌, ◌-◌, ◌*◌, ◌/◌, ◌<◌, ◌≤◌, true, false, T, ℤ, pos, sym, refl, ap, ◌∙◌, subst, true≢false, add-mul, lt_of_mul-lt-mul_right, mul-one, mul_right_comm, div-mul-le_self, le_of_mul-le-mul_right, arith, ltb-false, ltb-true}
use native.Mathlib.Nat.{div-eq_of_lt-le, lt-div-mul-add}
use mathlib.Core.Bool.{false≢true}
use lib.Ieee.{Float, nan, inf, fin, binary64, up, down, lt, sub, fits, round}
use lib.Ieee.Fits.{down_pos}
use lib.Ieee.Exact.{HasValue}
use lib.Ieee.Scale.{round_same}
use Rattle.float.specs.Float.{cut, whole_by, trunc_of, floor_of}
use Rattle.float.proofs.Exact.{trunc_value}

abbrev one : Float
one = fin false 1 (pos 0)

-- ---- the next whole number up, where a / d has a fraction and where it has none
lift_more : (a d : ℕ) → 0 < d → a / d * d < a → a / d + 1 ≡ (a + (d - 1)) / d
lift_more a d p h =
    let n = a / d in
    let two : (n + 1 + 1) * d ≡ n * d + d + d = add-mul (n + 1) 1 d ∙ ap (λ (k : ℕ). k + 1 * d) (add-mul n 1 d) ∙ omega arith in
    sym (div-eq_of_lt-le {k = n + 1} d (omega (arith, add-mul n 1 d)) (omega (arith, lt-div-mul-add {a = a} p)))

lift_same : (a d : ℕ) → 0 < d → a ≤ a / d * d → a / d ≡ (a + (d - 1)) / d
lift_same a d p h =
    let n = a / d in
    sym (div-eq_of_lt-le {k = n} d (omega (arith, div-mul-le_self a d)) (omega (arith, add-mul n 1 d)))

-- ---- a whole number n as a float z, against m * 2 ^ e. p * 2 ^ g is n, so times what `lt` multiplies by
pub scaled : (p : ℕ) (g : ℤ) (n : ℕ) (e : ℤ) → p * up g * 1 ≡ n * down g → p * up g * down e ≡ n * down e * down g
scaled p g n e h = ap (λ (a : ℕ). a * down e) (sym (mul-one (p * up g)) ∙ h) ∙ mul_right_comm n (down g) (down e)

below_whole : (z : Float) (n m : ℕ) (e : ℤ) → HasValue z true n 1 → lt (fin true m e) z ≡ true → n * down e < m * up e
unfolding lt
below_whole (fin false p g) n m e v h = absurd (false≢true v.0)
below_whole (fin true p g) n m e v h =
    lt_of_mul-lt-mul_right (down g) (subst (λ (a : ℕ). a < m * up e * down g) (scaled p g n e v.1) (ltb-true (p * up g * down e) (m * up e * down g) h))
below_whole nan n m e v h = elim v [ ]
below_whole (inf _) n m e v h = elim v [ ]

not_below : (z : Float) (n m : ℕ) (e : ℤ) → HasValue z true n 1 → lt (fin true m e) z ≡ false → m * up e ≤ n * down e
unfolding lt
not_below (fin false p g) n m e v h = absurd (false≢true v.0)
not_below (fin true p g) n m e v h =
    le_of_mul-le-mul_right (subst (λ (a : ℕ). m * up e * down g ≤ a) (scaled p g n e v.1) (ltb-false (p * up g * down e) (m * up e * down g) h)) (down_pos g)
not_below nan n m e v h = elim v [ ]
not_below (inf _) n m e v h = elim v [ ]

pub positive_below : (z : Float) (n m : ℕ) (e : ℤ) → HasValue z false n 1 → lt (fin false m e) z ≡ true → m * up e < n * down e
unfolding lt
positive_below (fin true p g) n m e v h = absurd (true≢false v.0)
positive_below (fin false p g) n m e v h =
    lt_of_mul-lt-mul_right (down g) (subst (λ (a : ℕ). m * up e * down g < a) (scaled p g n e v.1) (ltb-true (m * up e * down g) (p * up g * down e) h))
positive_below nan n m e v h = elim v [ ]
positive_below (inf _) n m e v h = elim v [ ]

-- one less than a negative whole number
less_one : (z : Float) (n : ℕ) → HasValue z true n 1 → sub binary64 z one ≡ round binary64 true (n + 1) 1
unfolding sub
less_one (fin false p g) n v = absurd (false≢true v.0)
less_one (fin true p g) n v =
    round_same binary64 true (p * up g * 1 + 1 * down g) (down g * 1) (n + 1) 1 (omega (arith, down_pos g)) (omega arith)
    (omega (arith, v.1, add-mul n 1 (down g)))
less_one nan n v = elim v [ ]
less_one (inf _) n v = elim v [ ]

-- ---- the two arms of `floor`
pub floor_below : (x : Float) → T (fits binary64 x) → lt x (trunc_of x) ≡ true → sub binary64 (trunc_of x) one ≡ floor_of x
unfolding lt whole_by
floor_below nan f h = absurd (false≢true h)
floor_below (inf true) f h = absurd (false≢true h)
floor_below (inf false) f h = absurd (false≢true h)
floor_below (fin false m e) f h =
    absurd (omega (arith, positive_below (trunc_of (fin false m e)) (cut m e) m e (trunc_value false m e f) h, div-mul-le_self (m * up e) (down e)))
floor_below (fin true m e) f h =
    let v = trunc_value true m e f in
    less_one (trunc_of (fin true m e)) (cut m e) v
    ∙ ap (λ (n : ℕ). round binary64 true n 1) (lift_more (m * up e) (down e) (down_pos e) (below_whole (trunc_of (fin true m e)) (cut m e) m e v h))

pub floor_same : (x : Float) → T (fits binary64 x) → lt x (trunc_of x) ≡ false → trunc_of x ≡ floor_of x
unfolding lt whole_by
floor_same nan f h = refl
floor_same (inf s) f h = refl
floor_same (fin false m e) f h = refl
floor_same (fin true m e) f h =
    ap (λ (n : ℕ). round binary64 true n 1) (lift_same (m * up e) (down e) (down_pos e) (not_below (trunc_of (fin true m e)) (cut m e) m e (trunc_value true m e f) h))
