-- A place b that lies below s, by less than one unit, is s cut. Assumes nothing.
use Prim.Native.Nat.{ℕ, ◌+◌, ◌*◌, ◌/◌, ◌-◌, ◌^◌, ◌<◌, min}
use mathlib.Core.Bool.{true, false, false≢true, true≢false}
use mathlib.Core.Path.{◌≡◌, subst}
use native.Mathlib.Nat.{div-eq_of_lt-le, lt_of_mul-lt-mul_right}
use native.Mathlib.Omega.{arith}
use borrow.Author.Tests.{ltb-true, lt-ltb}
use lib.IntN.{ℤ, pos}
use lib.Ieee.{Float, nan, inf, fin, binary64, up, down, lt, of_bits, of_int, to_unsigned}
use lib.Ieee.Exact.{HasValue}
use lib.Ieee.Back.{round_whole}
use Rattle.float.proofs.Downward.{scaled, positive_below}

-- a whole number n as a float z, below m * 2 ^ e
above : (z : Float) (n m : ℕ) (e : ℤ) → HasValue z false n 1 → lt z (fin false m e) ≡ true → n * down e < m * up e
unfolding lt
above (fin true p g) n m e v h = absurd (true≢false v.0)
above (fin false p g) n m e v h =
    lt_of_mul-lt-mul_right (down g) (subst (λ (a : ℕ). a < m * up e * down g) (scaled p g n e v.1) (ltb-true (p * up g * down e) (m * up e * down g) h))
above nan n m e v h = elim v [ ]
above (inf _) n m e v h = elim v [ ]

-- what the two tests say of s
pub record Within (b : ℕ) (s : Float) : Type 0 where
  pub place : b ≡ to_unsigned 64 s
  pub positive : lt (of_bits binary64 0) s ≡ true

cut_is : (a d b : ℕ) → b * d < a → a < (b + 1) * d → b < 2 ^ 53 → b ≡ min (a / d) (2 ^ 64 - 1)
cut_is a d b l h less =
    let q : a / d ≡ b = div-eq_of_lt-le {k = b} d (omega arith) h in
    omega arith

within : (z w s : Float) (b : ℕ) → HasValue z false b 1 → HasValue w false (b + 1) 1 → b < 2 ^ 53 → lt z s ≡ true → lt s w ≡ true → Within b s
unfolding lt of_bits to_unsigned
within (fin t p g) w nan b v u less h k = absurd (false≢true h)
within (fin t p g) w (inf true) b v u less h k = absurd (false≢true h)
within (fin t p g) (fin r q f) (inf false) b v u less h k = absurd (false≢true k)
within (fin true p g) w (fin s m e) b v u less h k = absurd (true≢false v.0)
within (fin false p g) w (fin true m e) b v u less h k = absurd (false≢true h)
within (fin false p g) w (fin false m e) b v u less h k =
    let low = above (fin false p g) b m e v h in
    record {
      place = cut_is (m * up e) (down e) b low (positive_below w (b + 1) m e u k) less;
      positive = lt-ltb (0 * down e) (m * up e * 1) (omega arith);
    }
within nan w s b v u less h k = elim v [ ]
within (inf _) w s b v u less h k = elim v [ ]
within (fin t p g) nan (inf false) b v u less h k = elim u [ ]
within (fin t p g) (inf _) (inf false) b v u less h k = elim u [ ]

pub guessed : (s : Float) (b : ℕ) → b < 2 ^ 53 → lt (of_int binary64 (pos b)) s ≡ true → lt s (of_int binary64 (pos (b + 1))) ≡ true → Within b s
unfolding of_int
guessed s b less h k = within _ _ s b (round_whole binary64 false b (omega arith)) (round_whole binary64 false (b + 1) (omega arith)) less h k
