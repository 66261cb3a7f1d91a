-- The times of ten steps are numbers, and they rise; those of the hundred steps between samples are numbers: by computation. Assumes nothing.
use Prim.Native.Nat.{ℕ, zero, suc, ◌+◌, ◌/◌, ◌%◌, ◌<◌, ◌≤◌}
use mathlib.Core.Bool.{Bool, true, ◌&&◌}
use mathlib.Core.Path.{◌≡◌, refl}
use native.Mathlib.Omega.{arith}
use borrow.Author.Count.{below_more}
use lib.Dec.{T}
use lib.Ieee.{Float, binary64, round, add, mul, div, le, of_bits}
use lib.Ieee.Fits.{and_l, and_r}
use lib.Ieee.Scale.{finite}
use Rattle.arclen.specs.Rk4.{half_of}
use Rattle.float.specs.Numbers.{nought}
use Rattle.arclen.specs.Arclen.{tenth, hundredth}
use Rattle.quickarclen.specs.Stages.{time_at, time_from, within, place_at}

abbrev pub middle : Float → Float
middle t = add binary64 t (half_of tenth)

abbrev pub end : Float → Float
end t = add binary64 t tenth

abbrev rising : Float → Bool
rising t = finite t && (finite (middle t) && (finite (end t) && (le t (middle t) && le (middle t) (end t))))

unfoldable rising_below : ℕ → Bool
rising_below zero = true
rising_below (suc k) = rising_below k && rising (time_at tenth k)

each_of : (k : ℕ) → T (rising_below k) → (i : ℕ) → i < k → T (rising (time_at tenth i))
unfolding rising_below
each_of zero h i less = absurd (omega arith)
each_of (suc k) h i less =
    let here = rising (time_at tenth k) in
    below_more (λ (j : ℕ). T (rising (time_at tenth j))) k (each_of k (and_l (rising_below k) here h)) (and_r (rising_below k) here h) i (omega arith)

ten_rising : T (rising_below 10)
unfolding rising_below time_at of_bits div mul add round le
ten_rising = tt

-- ---- the start of a step, its middle and its end
pub record Times (t : Float) : Type 0 where
  pub start_finite : T (finite t)
  pub middle_finite : T (finite (middle t))
  pub end_finite : T (finite (end t))
  pub first_half_lem : T (le t (middle t))
  pub second_half_lem : T (le (middle t) (end t))

times_of : (t : Float) → T (rising t) → Times t
times_of t h =
    let a = finite t in
    let b = finite (middle t) in
    let c = finite (end t) in
    let d = le t (middle t) in
    let e = le (middle t) (end t) in
    let h1 = and_r a (b && (c && (d && e))) h in
    let h2 = and_r b (c && (d && e)) h1 in
    let h3 = and_r c (d && e) h2 in
    record {
      start_finite = and_l a (b && (c && (d && e))) h;
      middle_finite = and_l b (c && (d && e)) h1;
      end_finite = and_l c (d && e) h2;
      first_half_lem = and_l d e h3;
      second_half_lem = and_r d e h3;
    }

pub times : (i : ℕ) → i < 10 → Times (time_at tenth i)
times i less = times_of (time_at tenth i) (each_of 10 ten_rising i less)

-- ---- n steps of a hundredth from t on: where each starts, and its middle
unfoldable finite_on : ℕ → Float → Bool
finite_on zero t = finite t
finite_on (suc n) t = finite t && (finite (add binary64 t (half_of hundredth)) && finite_on n (add binary64 t hundredth))

hundred_finite : T (finite_on 100 nought)
unfolding finite_on of_bits div mul add round
hundred_finite = tt

start_finite : (n : ℕ) (t : Float) → T (finite_on n t) → (i : ℕ) → i ≤ n → T (finite (time_from hundredth t i))
unfolding finite_on time_from
start_finite zero t h zero less = h
start_finite zero t h (suc i) less = absurd (omega arith)
start_finite (suc n) t h zero less = and_l (finite t) (finite (add binary64 t (half_of hundredth)) && finite_on n (add binary64 t hundredth)) h
start_finite (suc n) t h (suc i) less =
    start_finite n (add binary64 t hundredth)
    (and_r (finite (add binary64 t (half_of hundredth))) (finite_on n (add binary64 t hundredth))
    (and_r (finite t) (finite (add binary64 t (half_of hundredth)) && finite_on n (add binary64 t hundredth)) h)) i (omega arith)

middle_finite : (n : ℕ) (t : Float) → T (finite_on n t) → (i : ℕ) → i < n → T (finite (add binary64 (time_from hundredth t i) (half_of hundredth)))
unfolding finite_on time_from
middle_finite zero t h i less = absurd (omega arith)
middle_finite (suc n) t h zero less =
    and_l (finite (add binary64 t (half_of hundredth))) (finite_on n (add binary64 t hundredth))
    (and_r (finite t) (finite (add binary64 t (half_of hundredth)) && finite_on n (add binary64 t hundredth)) h)
middle_finite (suc n) t h (suc i) less =
    middle_finite n (add binary64 t hundredth)
    (and_r (finite (add binary64 t (half_of hundredth))) (finite_on n (add binary64 t hundredth))
    (and_r (finite t) (finite (add binary64 t (half_of hundredth)) && finite_on n (add binary64 t hundredth)) h)) i (omega arith)

-- steps after steps
pub time_on : (h t : Float) (m n : ℕ) → time_from h (time_from h t m) n ≡ time_from h t (m + n)
unfolding time_from
time_on h t zero n = let all : 0 + n ≡ n = omega arith in rw all
time_on h t (suc m) n = let more : suc m + n ≡ suc (m + n) = omega arith in rw more (time_on h (add binary64 t h) m n)

-- the 21 places of ten steps, after m of the hundred
pub places_finite : (m : ℕ) → m ≤ 90 → (k : ℕ) → k < 21 → T (finite (place_at hundredth (time_from hundredth nought m) k))
unfolding place_at
places_finite m few k less = rw (time_on hundredth nought m (k / 2)) (by (k % 2) refl)
  where
    by : (r : ℕ) → k % 2 ≡ r → T (finite (within hundredth (time_from hundredth nought (m + k / 2)) r))
    by zero e = start_finite 100 nought hundred_finite (m + k / 2) (omega arith)
    by (suc r) e = middle_finite 100 nought hundred_finite (m + k / 2) (omega arith)
