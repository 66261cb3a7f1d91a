-- The times of ten steps, counted in smallest f64s. Assumes nothing.
use Prim.Native.Nat.{ℕ, zero, suc, ◌*◌, ◌^◌, ◌≤◌, ◌<◌}
use mathlib.Core.Path.{◌≡◌, refl}
use native.Mathlib.Omega.{arith}
use lib.Dec.{T}
use lib.IntN.{negsuc, pos}
use lib.Ieee.{Float, binary64, fits, round, add, mul, div, of_bits}
use lib.Ieee.Bits.{of_bits-fits}
use lib.Ieee.Fits.{add-fits}
use Rattle.float.proofs.NotNegative.{NotNegative, number, add_plus}
use Rattle.float.proofs.Nearly.{grain, grain_pos, Ratio, ratio, ratio_plus, same_size, size_le_of, Sized, size_of}
use Rattle.arclen.specs.Arclen.{tenth}
use Rattle.quickarclen.specs.Stages.{time_at}
use Rattle.quickarclen.proofs.Times.{middle, end, times}
use Rattle.quickmeasure.proofs.Ahead.{tenth_is, half_is}

-- ---- the start of a step, its middle and its end
pub record Clock (t : Float) : Type 0 where
  pub start : Sized t
  pub half : Sized (middle t)
  pub whole : Sized (end t)
  pub first : start.size ≤ half.size
  pub second : half.size ≤ whole.size

time_plus : (i : ℕ) → NotNegative (time_at tenth i)
unfolding time_at of_bits
time_plus zero = number _ _
time_plus (suc i) = add_plus (time_plus i) (ratio_plus tenth_is)

time_fits : (i : ℕ) → T (fits binary64 (time_at tenth i))
unfolding time_at
time_fits zero = of_bits-fits binary64 _
time_fits (suc i) = add-fits binary64 _ _

pub clock : (i : ℕ) → i < 10 → Clock (time_at tenth i)
clock i less =
    let t = times i less in
    let p = time_plus i in
    let start = size_of p (time_fits i) t.start_finite in
    let half = size_of (add_plus p (ratio_plus half_is)) (add-fits binary64 _ _) t.middle_finite in
    let whole = size_of (add_plus p (ratio_plus tenth_is)) (add-fits binary64 _ _) t.end_finite in
    record {
      start = start;
      half = half;
      whole = whole;
      first = size_le_of start.value half.value t.first_half_lem;
      second = size_le_of half.value whole.value t.second_half_lem;
    }

-- the first time is 0, and the step 4 starts at eight times the middle of the first one
unfoldable brief : ℕ
brief = 3602879701896397 * 2 ^ 1018

pub none_yet : {p : ℕ} → Ratio (time_at tenth 0) p grain → p ≡ 0
unfolding time_at of_bits
none_yet r = same_size r (ratio {a = 0} {c = grain} 0 (pos 0) grain_pos (omega arith))

brief_is : Ratio (middle (time_at tenth 0)) brief grain
unfolding time_at of_bits div mul add round grain brief
brief_is = ratio 3602879701896397 (negsuc 55) grain_pos refl

eight_is : Ratio (time_at tenth 4) (8 * brief) grain
unfolding time_at of_bits div mul add round grain brief
eight_is = ratio 3602879701896397 (negsuc 52) grain_pos refl

pub eight_times : {p q : ℕ} → Ratio (middle (time_at tenth 0)) p grain → Ratio (time_at tenth 4) q grain → q ≡ 8 * p
eight_times r s = rw (same_size r brief_is) (same_size s eight_is)
