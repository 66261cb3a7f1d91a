-- The square of a root is nearly the number itself, counted in smallest f64s: a hundred-thousandth away at most. Assumes nothing.
use Rattle.std.proofs.Common.{◌≡◌, ℕ, zero, suc, ◌+◌, ◌*◌, ◌/◌, ◌^◌, ◌<◌, ◌≤◌, ℤ, sym, ap, ◌∙◌, le_of_suc-le-suc, lt_of_le_of_lt, le_of_lt, mul-le-mul_right, zero-lt-suc, mul_assoc, add-mul, mul-le-mul_left, mul-lt-mul_of_pos_right, mul-pos, lt_of_not-le, mul-add, mul_right_comm, not-le_of_lt, mul-div_cancel, arith, pow_pos, pow-add}
use native.Mathlib.Nat.{mul-mul-mul_comm}
use lib.Ieee.{Float, up, down}
use lib.Ieee.Fits.{up_pos, down_pos}
use lib.Ieee.Positive.{first_pos}
use Rattle.float.specs.Float.{root_units, root_of}
use Rattle.float.proofs.Scaled.{four_pow}
use Rattle.float.proofs.NearRoot.{near_root}
use Rattle.float.proofs.Nearly.{grain, grain_pos, Ratio, ratio, ratio_of}

-- ---- squares keep order
pub root_le : (p q : ℕ) → p * p ≤ q * q → p ≤ q
root_le p q h =
    le_of_suc-le-suc (lt_of_not-le (λ (g : suc q ≤ p).
    not-le_of_lt (lt_of_le_of_lt (mul-le-mul_left q (le_of_lt g)) (mul-lt-mul_of_pos_right g (omega arith))) h))

pub squared : (c x : ℕ) → c * x * (c * x) ≡ c * c * (x * x)
squared c x = mul-mul-mul_comm c x c x

pub sum_squared : (x z : ℕ) → x * x + z * z ≤ (x + z) * (x + z)
sum_squared x z = omega (arith, add-mul x z (x + z), mul-add x x z, mul-add z x z)

-- ---- the root of n smallest f64s: its square is nearly n times the grain
pub record Rooted (n : ℕ) (x : Float) : Type 0 where
  pub size : ℕ
  pub value : Ratio x size grain
  pub most : size * size * 100000 ≤ 100001 * (n * grain)
  pub least : n * grain * 100000 ≤ 100001 * (size * size)

loosened : (s P : ℕ) → s * 1048576 ≤ 1048579 * P → s * 100000 ≤ 100001 * P
loosened s P h = omega arith

units_rooted : (n : ℕ) → 0 < n → Rooted n (root_units n)
unfolding grain
units_rooted n some =
    let near = near_root n some in
    let p = near.p in
    let s = p * 2 ^ 484 in
    let square : s * s ≡ p * p * 4 ^ 484 = mul-mul-mul_comm p (2 ^ 484) p (2 ^ 484) ∙ ap (λ (a : ℕ). p * p * a) (sym (pow-add 2 484 484) ∙ sym (four_pow 484)) in
    let all : n * 2 ^ 1074 ≡ n * 2 ^ 106 * 4 ^ 484 = sym (mul_assoc n (2 ^ 106) (4 ^ 484)) in
    record {
      size = s;
      value = ratio_of _ s (2 ^ 1074) (pow_pos 1074) near.value;
      most = rw (square, all) (scaled (p * p) (n * 2 ^ 106) (4 ^ 484) (loosened (p * p) (n * 2 ^ 106) near.most));
      least = rw (square, all) (scaled (n * 2 ^ 106) (p * p) (4 ^ 484) (loosened (n * 2 ^ 106) (p * p) near.least));
    }
  where
    scaled : (s P G : ℕ) → s * 100000 ≤ 100001 * P → s * G * 100000 ≤ 100001 * (P * G)
    scaled s P G near =
        let a : s * 100000 * G ≤ 100001 * P * G = mul-le-mul_right G near in
        rw (mul_right_comm s G 100000, ← mul_assoc 100001 P G) a

units_of : (m n : ℕ) (e : ℤ) → m * up e * grain ≡ n * down e → m * up e * 2 ^ 1074 / down e ≡ n
unfolding grain
units_of m n e v = ap (λ (a : ℕ). a / down e) v ∙ mul-div_cancel n (down_pos e)

pub root_of_lem : {x : Float} {n : ℕ} → Ratio x n grain → Rooted n (root_of x)
unfolding root_of
root_of_lem {n = zero} (ratio zero e p v) =
    record { size = 0; value = ratio {a = 0} {c = grain} 0 e grain_pos (omega arith); most = omega arith; least = omega arith }
root_of_lem {n = suc n} (ratio zero e p v) = absurd (omega (arith, mul-pos (zero-lt-suc n) (down_pos e)))
root_of_lem {n = n} (ratio (suc m) e p v) =
    let some : 0 < n = first_pos n (down e) (rw (← v) (mul-pos (mul-pos (zero-lt-suc m) (up_pos e)) p)) in
    rw (units_of (suc m) n e v) (units_rooted n some)
