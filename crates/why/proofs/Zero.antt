-- A zero tangent leaves the angle test false: a whole number close to 0 is 0, so that the bend and the product of the lengths are 0 or NaN, and
-- their quotient is NaN. Assumes nothing.
use Prim.Native.Nat.{ℕ, zero, suc, ◌*◌, ◌^◌, ◌≤◌, ◌<◌}
use mathlib.Core.Bool.{Bool, true, false}
use mathlib.Core.Path.{◌≡◌, refl, sym, ap, ◌∙◌, subst}
use native.Mathlib.Nat.{mul_comm, mul-le-mul, le_refl}
use native.Mathlib.Omega.{arith}
use borrow.Author.Tests.{ltb-true}
use lib.Dec.{T}
use lib.IntN.{ℤ, pos, negsuc}
use lib.Ieee.{Float, nan, inf, fin, binary64, up, down, unlike, fits, round, sub, mul, div, lt}
use lib.Ieee.Back.{whole_unique}
use Rattle.float.specs.Numbers.{nought, fiftieth}
use Rattle.float.specs.Float.{abs_of, tiny, close_to}
use Rattle.float.proofs.Zeros.{IsZero, is_zero, zero_finite, IsBlank, blank, blank_nan, zeros_add, times_zero, any_times_zero, root_zero, blanks_sub, blank_over_zero}
use Rattle.float.proofs.Less.{less_nan}
use Rattle.geometry.specs.declared.Point.{Point}
use Rattle.geometry.specs.Geometry.{norm_of}
use Rattle.corners.specs.Corners.{bend, angle_corner}
use Rattle.corners.proofs.Whole.{Whole, minus_nil}

-- ---- a whole number close to 0 is 0

tiny_is : tiny ≡ fin false 3022314549036573 (negsuc 77)
unfolding tiny round
tiny_is = refl

below_tiny : (y : Float) (a : ℕ) → Whole y a → lt (abs_of y) (fin false 3022314549036573 (negsuc 77)) ≡ true → a ≡ 0
unfolding lt abs_of
below_tiny nan a v h = absurd v.value
below_tiny (inf s) a v h = absurd v.value
below_tiny (fin s m e) zero v h = refl
below_tiny (fin s m e) (suc a) v h =
    let less = ltb-true (m * up e * 2 ^ 78) (3022314549036573 * 1 * down e) h in
    let once : 1 * down e ≤ suc a * down e = mul-le-mul {n₂ = suc a} {m₂ = down e} (omega arith) (le_refl (down e)) in
    let is : m * up e * 1 ≡ suc a * down e = v.value.1 in
    absurd (omega arith)

zero_fits : (s : Bool) → T (fits binary64 (fin s 0 (pos 0)))
unfolding fits
zero_fits s = tt

zero_value : (x : Float) → T (fits binary64 x) → Whole x 0 → IsZero x
zero_value x f v = subst IsZero (whole_unique binary64 (fin v.sign 0 (pos 0)) x v.sign 0 (zero_fits v.sign) f (refl, refl) v.value) (is_zero v.sign)

pub close_is_zero : (x : Float) (a : ℕ) → T (fits binary64 x) → Whole x a → a < 2 ^ 53 → close_to x nought ≡ true → IsZero x
unfolding close_to
close_is_zero x a f v small h =
    let none : a ≡ 0 = below_tiny (sub binary64 x nought) a (minus_nil x a v small) (ap (lt (abs_of (sub binary64 x nought))) (sym tiny_is) ∙ h) in
    zero_value x f (rw none at v)

-- ---- what a zero tangent makes of the bend and of the lengths

pub record IsNone (d : Point) : Type 0 where
  pub x : IsZero d.x
  pub y : IsZero d.y

unlike_swap : (s t : Bool) → unlike s t ≡ unlike t s
unlike_swap true true = refl
unlike_swap true false = refl
unlike_swap false true = refl
unlike_swap false false = refl

swap : (u s : Bool) (m : ℕ) (e : ℤ) → mul binary64 (fin s m e) (fin u 0 (pos 0)) ≡ mul binary64 (fin u 0 (pos 0)) (fin s m e)
unfolding mul
swap u s m e = rw (unlike_swap s u, mul_comm (m * up e) 0, mul_comm (down e) 1)

zero_times : {z : Float} → IsZero z → (x : Float) → IsBlank (mul binary64 z x)
zero_times (is_zero u) nan = unfold mul in blank_nan
zero_times (is_zero u) (inf s) = unfold mul in blank_nan
zero_times (is_zero u) (fin s m e) = subst IsBlank (swap u s m e) (any_times_zero (fin s m e) (is_zero u))

norm_zero : {d : Point} → IsNone d → IsZero (norm_of d)
norm_zero {d} n = root_zero (zeros_add (times_zero d.x (zero_finite n.x) n.x) (times_zero d.y (zero_finite n.y) n.y))

blank_over_blank : {x y : Float} → IsBlank x → IsBlank y → div binary64 x y ≡ nan
blank_over_blank b (blank z) = blank_over_zero b z
blank_over_blank (blank (is_zero s)) blank_nan = unfold div in refl
blank_over_blank blank_nan blank_nan = unfold div in refl

above_nan : (x : Float) → lt x (abs_of nan) ≡ false
unfolding abs_of
above_nan x = less_nan x

no_angle : (d0 d1 : Point) → IsBlank (bend d0 d1) → IsBlank (mul binary64 (norm_of d0) (norm_of d1)) → angle_corner d0 d1 ≡ false
no_angle d0 d1 b n = ap (λ (q : Float). lt fiftieth (abs_of q)) (blank_over_blank b n) ∙ above_nan fiftieth

pub none_before_lem : (d0 d1 : Point) → IsNone d0 → angle_corner d0 d1 ≡ false
none_before_lem d0 d1 n =
    no_angle d0 d1 (blanks_sub (any_times_zero d1.x n.y) (zero_times n.x d1.y)) (zero_times (norm_zero n) (norm_of d1))

pub none_after_lem : (d0 d1 : Point) → IsNone d1 → angle_corner d0 d1 ≡ false
none_after_lem d0 d1 n =
    no_angle d0 d1 (blanks_sub (zero_times n.x d0.y) (any_times_zero d0.x n.y)) (any_times_zero (norm_of d0) (norm_zero n))
