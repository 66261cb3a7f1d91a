-- A sum does not fall where what is added to it is not negative: specs/Statements. Assumes nothing.
use Prim.Native.Nat.{ℕ, suc, ◌+◌, ◌-◌, ◌*◌, ◌≤◌, ◌<◌}
use native.Mathlib.Nat.{zero-mul, mul-pos}
use native.Mathlib.Omega.{arith}
use mathlib.Core.Bool.{Bool, true, false, not, cond, false≢true}
use mathlib.Core.Path.{◌≡◌, refl}
use borrow.Author.Tests.{ltb-true}
use lib.Dec.{T, ltb, ltb→lt, nltb→le}
use lib.IntN.{ℤ, pos}
use lib.Pow.{pow_pos}
use lib.Ieee.{Float, nan, inf, fin, Format, binary64, prec, emax, low, up, down, round, sum, add, lt, le, of_bits}
use lib.Ieee.Fits.{down_pos}
use lib.Ieee.Exact.{HasValue, round_exact}
use lib.Ieee.Order.{le_of_values}
use Rattle.float.specs.Numbers.{nought}
use Rattle.float.proofs.NotNegative.{NotNegative, no_number, endless, number}
use Rattle.quickmeasure.proofs.Signs.{plus_is, plus_by, round_plus}
use Rattle.quickmeasure.proofs.Climb.{above_plus, adding, nan_lost}
use Rattle.attempt.specs.Statements.{SumDoesNotFall}

-- ---- a sum that is above zero: of a negative number and zero there is none
zero_not_above : (r : Float) (c : ℕ) → 0 < c → HasValue r false 0 c → lt nought r ≡ true → ⊥
unfolding lt of_bits
zero_not_above nan c C v h = v
zero_not_above (inf s) c C v h = v
zero_not_above (fin true m e) c C v h = false≢true h
zero_not_above (fin false m e) c C v h =
    let some : 0 < m * up e = omega (arith, ltb-true (0 * down e) (m * up e * 1) h) in
    omega (arith, mul-pos some C, v.1)

negative : (f : Format) (a c : ℕ) → 0 < c → lt nought (sum f true a false 0 c) ≡ true → ⊥
unfolding sum
negative f a c C h = go (ltb a 0) (ltb 0 a) (ltb→lt a 0) (nltb→le 0 a) h
  where
    go : (t u : Bool) → (T t → a < 0) → (T (not u) → a ≤ 0) → lt nought (cond t (round f false (0 - a) c) (round f u (a - 0) c)) ≡ true → ⊥
    go true u k l h = omega (arith, k tt)
    go false true k l h = rw (round_plus f true (a - 0) c) at (plus_is (above_plus (round f true (a - 0) c) h))
    go false false k l h =
        let none : a - 0 ≡ 0 = omega (arith, l tt) in
        zero_not_above (round f false 0 c) c C (round_exact f false 0 c 0 0 C (pow_pos (prec f)) (pow_pos (low f + suc (emax f))) (omega arith)) (rw none at h)

-- ---- a sum with what is not negative

least : (n : ℕ) (d : ℤ) → T (le (fin false 0 (pos 0)) (fin false n d))
least n d = le_of_values (fin false 0 (pos 0)) (fin false n d) 0 1 (n * up d) (down d) (omega arith) (down_pos d) (refl, refl) (refl, refl) (omega arith)

none_added : {x y : Float} (z : Float) → NotNegative x → NotNegative y → lt (add binary64 x y) z ≡ true → lt (add binary64 x nought) z ≡ true
unfolding of_bits le
none_added {x} z p no_number l = absurd (nan_lost x z l)
none_added z p endless l = adding z p (number 0 (pos 0)) endless tt l
none_added z p (number n d) l = adding z p (number 0 (pos 0)) (number n d) (least n d) l

pub no_less : SumDoesNotFall
unfolding lt add of_bits
no_less nan y z h p l = l
no_less (inf true) y z h p l = absurd (false≢true h)
no_less (inf false) y z h p l = none_added z endless (plus_by y p) l
no_less (fin true m e) y z h p l = absurd (negative binary64 (m * up e * 1) (down e * 1) (mul-pos (down_pos e) (down_pos (pos 0))) (rw (zero-mul (down e)) at h))
no_less (fin false m e) y z h p l = none_added z (number m e) (plus_by y p) l
