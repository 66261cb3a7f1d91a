-- Of two floats that are not negative the first is no more: sums, products and quotients keep that, by the order of rounding. Assumes nothing.
use Prim.Native.Nat.{ℕ, zero, suc, ◌*◌, ◌≤◌, ◌<◌}
use mathlib.Core.Bool.{Bool, true, false, cond, false≢true}
use mathlib.Core.Path.{◌≡◌, refl}
use native.Mathlib.Nat.{zero-lt-suc, add_comm, mul_comm, mul_assoc, mul_left_comm, mul-mul-mul_comm, mul-pos, mul-le-mul_left, mul-le-mul_right}
use native.Mathlib.Omega.{arith}
use lib.Dec.{T, eqb, eqb→eq}
use lib.IntN.{ℤ}
use lib.Ieee.{Float, nan, inf, fin, binary64, up, down, fits, round, sum, add, mul, div, lt, le}
use lib.Ieee.Fits.{up_pos, down_pos}
use lib.Ieee.Order.{round_mono, le_of_values}
use lib.Ieee.Positive.{through}
use Rattle.float.proofs.Zeros.{times_nan}
use Rattle.float.proofs.NotNegative.{NotNegative, no_number, endless, number, rounded_plus, add_plus, none_above}
use Rattle.float.proofs.Nearly.{at_most}
use Rattle.quickmeasure.proofs.Climb.{adding, own, nan_lost}

-- nothing is said of what stands before a NaN or +inf: neither is less than any limit
pub data NoMore : Float → Float → Type 0 where
  than_nan : (p : Float) → NoMore p nan
  than_inf : (p : Float) → NoMore p (inf false)
  numbers : (m n : ℕ) (e d : ℤ) → m * up e * down d ≤ n * up d * down e → NoMore (fin false m e) (fin false n d)

no_more : {p q : Float} → NotNegative p → NotNegative q → T (le p q) → NoMore p q
unfolding le
no_more no_number q h = absurd h
no_more endless no_number h = absurd h
no_more endless endless h = than_inf _
no_more endless (number n d) h = absurd h
no_more (number m e) no_number h = absurd h
no_more (number m e) endless h = than_inf _
no_more (number m e) (number n d) h = numbers m n e d (at_most _ _ h)

rounds : (a b c d : ℕ) → 0 < b → 0 < d → a * d ≤ c * b → NoMore (round binary64 false a b) (round binary64 false c d)
rounds a b c d B D h = no_more (rounded_plus a b) (rounded_plus c d) (round_mono binary64 a b c d B D h)

pub no_more_than : {p q r : Float} → NoMore p q → NoMore q r → NoMore p r
no_more_than h (than_nan _) = than_nan _
no_more_than h (than_inf _) = than_inf _
no_more_than (numbers m n e d h) (numbers _ k _ g l) =
    numbers m k e g (through (m * up e) (n * up d) (k * up g) (down e) (down d) (down g) (down_pos d) h l)

-- NaN or +inf
at_top : (b : Bool) (p : Float) → NoMore p (cond b nan (inf false))
at_top true p = than_nan p
at_top false p = than_inf p

-- ---- a sum
pub first_part : {p w : Float} → NotNegative p → T (fits binary64 p) → NotNegative w → NoMore p (add binary64 p w)
unfolding add
first_part no_number f w = than_nan _
first_part endless f no_number = than_nan _
first_part endless f endless = than_inf _
first_part endless f (number n d) = than_inf _
first_part (number m e) f no_number = than_nan _
first_part (number m e) f endless = than_inf _
first_part (number m e) f (number n d) = no_more (number m e) (add_plus (number m e) (number n d)) (own m n e d f)

pub turned_round : {p w : Float} → NotNegative p → NotNegative w → add binary64 w p ≡ add binary64 p w
unfolding add sum
turned_round no_number no_number = refl
turned_round no_number endless = refl
turned_round no_number (number n d) = refl
turned_round endless no_number = refl
turned_round endless endless = refl
turned_round endless (number n d) = refl
turned_round (number m e) no_number = refl
turned_round (number m e) endless = refl
turned_round (number m e) (number n d) = rw (add_comm (n * up d * down e) (m * up e * down d), mul_comm (down d) (down e))

pub last_part : {p w : Float} → NotNegative p → T (fits binary64 p) → NotNegative w → NoMore p (add binary64 w p)
last_part p f w = rw (turned_round p w) (first_part p f w)

-- ---- a product
pub times_more : {x p q : Float} → NotNegative x → NoMore p q → NoMore (mul binary64 x p) (mul binary64 x q)
times_more {x} a (than_nan p) = rw (times_nan x) (than_nan _)
times_more no_number (than_inf p) = unfold mul in than_nan _
times_more endless (than_inf p) = unfold mul in than_inf _
times_more (number k g) (than_inf p) = unfold mul in at_top (eqb k 0) _
times_more no_number (numbers m n e d h) = unfold mul in than_nan _
times_more endless (numbers m n e d h) = unfold mul in at_top (eqb n 0) _
times_more (number k g) (numbers m n e d h) =
    let K = k * up g in
    let left = mul-mul-mul_comm K (m * up e) (down g) (down d) in
    let right = mul-mul-mul_comm K (n * up d) (down g) (down e) in
    unfold mul in rounds (K * (m * up e)) (down g * down e) (K * (n * up d)) (down g * down d) (mul-pos (down_pos g) (down_pos e)) (mul-pos (down_pos g) (down_pos d))
    (rw (left, right) (mul-le-mul_left (K * down g) h))

-- ---- a quotient: over less it is no less
over_less : (K G M E N D : ℕ) → M * D ≤ N * E → K * D * (M * G) ≤ K * E * (N * G)
over_less K G M E N D h =
    let left : K * D * (M * G) ≡ M * D * (K * G) = simp (mul_assoc, mul_comm, mul_left_comm) in
    let right : K * E * (N * G) ≡ N * E * (K * G) = simp (mul_assoc, mul_comm, mul_left_comm) in
    rw (left, right) (mul-le-mul_right (K * G) h)

pub over_more : {x : Float} → NotNegative x → (m n : ℕ) (e d : ℤ) → 0 < n → m * up e * down d ≤ n * up d * down e →
    NoMore (div binary64 x (fin false n d)) (div binary64 x (fin false m e))
unfolding div
over_more no_number m n e d some h = than_nan _
over_more endless m n e d some h = than_inf _
over_more (number k g) zero n e d some h = at_top (eqb k 0) _
over_more (number k g) (suc m) n e d some h = by (eqb n 0) (eqb (suc m) 0) (eqb→eq n 0)
  where
    by : (t u : Bool) → (T t → n ≡ 0) →
        NoMore (cond t (cond (eqb k 0) nan (inf false)) (round binary64 false (k * up g * down d) (n * up d * down g)))
        (cond u (cond (eqb k 0) nan (inf false)) (round binary64 false (k * up g * down e) (suc m * up e * down g)))
    by t true none = at_top (eqb k 0) _
    by true false none = absurd (omega (arith, none tt))
    by false false none =
        rounds (k * up g * down d) (n * up d * down g) (k * up g * down e) (suc m * up e * down g)
        (mul-pos (mul-pos some (up_pos d)) (down_pos g)) (mul-pos (mul-pos (zero-lt-suc m) (up_pos e)) (down_pos g))
        (over_less (k * up g) (down g) (suc m * up e) (down e) (n * up d) (down d) h)

-- ---- where a score with q is less than z, so is one with p
inf_lost : {x : Float} (z : Float) → NotNegative x → lt (add binary64 x (inf false)) z ≡ true → ⊥
unfolding add
inf_lost z no_number k = unfold lt in false≢true k
inf_lost z endless k = none_above z k
inf_lost z (number m e) k = none_above z k

pub still_less : {x p q : Float} (z : Float) → NotNegative x → NoMore p q → lt (add binary64 x q) z ≡ true → lt (add binary64 x p) z ≡ true
still_less {x} z a (than_nan p) k = absurd (nan_lost x z k)
still_less z a (than_inf p) k = absurd (inf_lost z a k)
still_less z a (numbers m n e d h) k =
    adding z a (number m e) (number n d)
    (le_of_values (fin false m e) (fin false n d) (m * up e) (down e) (n * up d) (down d) (down_pos e) (down_pos d) (refl, refl) (refl, refl) h) k
