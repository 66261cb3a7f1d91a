-- What is not negative stays so: each operation on such numbers gives one, and a square is one whatever its number. Assumes nothing.
use Rattle.std.proofs.Common.{◌≡◌, ℕ, zero, suc, ◌+◌, ◌*◌, ◌^◌, Bool, true, false, cond, T, eqb, ltb, ℤ, refl, subst}
use mathlib.Core.Bool.{false≢true}
use lib.Ieee.{Float, nan, inf, fin, Format, binary64, prec, emax, low, up, down, fits, odd, units, round, sum, add, mul, div, lt}
use lib.Ieee.Fits.{round_is}
use lib.Ieee.Scale.{finite}
use Rattle.float.specs.Float.{abs_of, root_of, root_units}

-- its sign is plus, or it is a NaN
pub data NotNegative : Float → Type 0 where
  no_number : NotNegative nan
  endless : NotNegative (inf false)
  number : (m : ℕ) (e : ℤ) → NotNegative (fin false m e)

pub abs_plus : (x : Float) → NotNegative (abs_of x)
unfolding abs_of
abs_plus nan = no_number
abs_plus (inf s) = endless
abs_plus (fin s m e) = number m e

pub sign_fits : (s : Bool) (m : ℕ) (e : ℤ) → T (fits binary64 (fin s m e)) → T (fits binary64 (fin false m e))
unfolding fits
sign_fits s zero e f = f
sign_fits s (suc m) e f = f

-- ---- a rounded fraction without its sign
abs_odd : (d : ℕ) (s : Bool) (q k l : ℕ) → abs_of (odd d s q k l) ≡ odd d false q k l
unfolding odd abs_of
abs_odd d s zero k l = refl
abs_odd d s (suc q) k l = refl

abs_units : (f : Format) (s : Bool) (q k : ℕ) → abs_of (units f s q k) ≡ units f false q k
unfolding units
abs_units f s q k = by (ltb (q * 2 ^ k) (2 ^ (low f + suc (emax f))))
  where
    by : (t : Bool) → abs_of (cond t (odd (suc (prec f)) s q k (low f)) (inf s)) ≡ cond t (odd (suc (prec f)) false q k (low f)) (inf false)
    by true = abs_odd (suc (prec f)) s q k (low f)
    by false = unfold abs_of in refl

pub abs_round : (s : Bool) (a c : ℕ) → abs_of (round binary64 s a c) ≡ round binary64 false a c
abs_round s a c = rw (round_is binary64 s a c, round_is binary64 false a c) (abs_units binary64 s _ _)

pub rounded_plus : (a c : ℕ) → NotNegative (round binary64 false a c)
rounded_plus a c = subst NotNegative (abs_round false a c) (abs_plus _)

-- ---- the operations

pub either : (b : Bool) {x y : Float} → NotNegative x → NotNegative y → NotNegative (cond b x y)
either true p q = p
either false p q = q

pub add_plus : {x y : Float} → NotNegative x → NotNegative y → NotNegative (add binary64 x y)
unfolding add sum
add_plus no_number q = no_number
add_plus endless no_number = no_number
add_plus endless endless = endless
add_plus endless (number n d) = endless
add_plus (number m e) no_number = no_number
add_plus (number m e) endless = endless
add_plus (number m e) (number n d) = rounded_plus (m * up e * down d + n * up d * down e) (down e * down d)

pub mul_plus : {x y : Float} → NotNegative x → NotNegative y → NotNegative (mul binary64 x y)
unfolding mul
mul_plus no_number q = no_number
mul_plus endless no_number = no_number
mul_plus endless endless = endless
mul_plus endless (number n d) = either (eqb n 0) no_number endless
mul_plus (number m e) no_number = no_number
mul_plus (number m e) endless = either (eqb m 0) no_number endless
mul_plus (number m e) (number n d) = rounded_plus (m * up e * (n * up d)) (down e * down d)

pub div_plus : {x y : Float} → NotNegative x → NotNegative y → NotNegative (div binary64 x y)
unfolding div
div_plus no_number q = no_number
div_plus endless no_number = no_number
div_plus endless endless = no_number
div_plus endless (number n d) = endless
div_plus (number m e) no_number = no_number
div_plus (number m e) endless = number _ _
div_plus (number m e) (number n d) =
    either (eqb n 0) (either (eqb m 0) no_number endless) (rounded_plus (m * up e * down d) (n * up d * down e))

pub root_plus : {x : Float} → NotNegative x → NotNegative (root_of x)
unfolding root_of root_units
root_plus no_number = no_number
root_plus endless = endless
root_plus (number zero e) = number _ _
root_plus (number (suc m) e) = subst NotNegative (abs_odd _ false _ _ _) (abs_plus _)

-- the signs of a square's factors are alike, and lost
pub square_abs : (x : Float) → mul binary64 x x ≡ mul binary64 (abs_of x) (abs_of x)
unfolding mul abs_of
square_abs nan = refl
square_abs (inf true) = refl
square_abs (inf false) = refl
square_abs (fin true m e) = refl
square_abs (fin false m e) = refl

pub square_plus : (x : Float) → NotNegative (mul binary64 x x)
square_plus x = rw (square_abs x) (mul_plus (abs_plus x) (abs_plus x))

pub squares_plus : (a b : Float) → NotNegative (add binary64 (mul binary64 a a) (mul binary64 b b))
squares_plus a b = add_plus (square_plus a) (square_plus b)

-- ---- what is less than another is a number: nothing is above +inf
pub none_above : (z : Float) → lt (inf false) z ≡ true → ⊥
unfolding lt
none_above nan h = false≢true h
none_above (inf t) h = false≢true h
none_above (fin t n d) h = false≢true h

pub less_finite : {x : Float} (z : Float) → NotNegative x → lt x z ≡ true → T (finite x)
less_finite z no_number h = absurd (unfold lt in false≢true h)
less_finite z endless h = absurd (none_above z h)
less_finite z (number m e) h = tt
