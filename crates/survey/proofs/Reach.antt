-- How far samples reach: at the end the next whole length, which is how many samples there are, is above the rounded length + 2. So a sampled run whose
-- length is no NaN has a finite length, and more samples than the whole part of it + 2. Assumes nothing.
use Prim.Native.Nat.{ℕ, zero, suc, ◌+◌, ◌-◌, ◌*◌, ◌/◌, ◌^◌, ◌≤◌, ◌<◌}
use mathlib.Core.Bool.{Bool, true, false, false≢true}
use mathlib.Core.List.{List, [], ◌∷◌, ◌++◌}
use mathlib.Core.Path.{◌≡◌, refl, sym, ap, ◌∙◌, subst}
use native.Mathlib.Nat.{mul-le-mul_right, add-mul, div-mul-le_self, lt-div-mul-add, lt_of_not-le, zero-lt-suc}
use native.Mathlib.Omega.{arith}
use lib.Dec.{T}
use lib.IntN.{ℤ}
use lib.ListN.{length, length-append}
use lib.Ieee.{Float, inf, fin, binary64, up, down, round, sum, add, le, of_bits}
use lib.Ieee.Fits.{down_pos}
use lib.Ieee.Exact.{HasValue}
use lib.Ieee.Back.{round_whole}
use lib.Ieee.Order.{round_mono}
use lib.Ieee.Scale.{round_same}
use Rattle.float.specs.Numbers.{nought, one, two}
use Rattle.geometry.specs.declared.Quad.{Quad}
use Rattle.arclen.specs.Arclen.{hundredth, arclen_functor_of, rk4_one}
use Rattle.samples.specs.declared.Step.{Step}
use Rattle.samples.specs.Samples.{Sample, sample_at, Walked, full, at, fill_from, fill_to, filled, moved_to, step_at, sweep_from, sweep_all, length_after, length_all, begun, last_of, nowhere, last_step, sampled, run_of, finished, thetas_of}
use Rattle.survey.proofs.Bounded.{Within, within}
use Rattle.survey.proofs.Speeds.{Size, endless, number}

-- a whole number as a float
abbrev whole : ℕ → Float
whole n = round binary64 false n 1

-- ---- the next whole length

one_more : (x : Float) (n : ℕ) → HasValue x false n 1 → add binary64 x one ≡ whole (n + 1)
unfolding add sum of_bits
one_more (fin true p g) n v = absurd (false≢true (sym v.0))
one_more (fin false p g) n v =
    round_same binary64 false (p * up g * 1 + 1 * down g) (down g * 1) (n + 1) 1 (omega (arith, down_pos g)) (omega arith)
    (omega (arith, v.1, add-mul n 1 (down g)))
one_more lib.Ieee.nan n v = elim v [ ]
one_more (inf _) n v = elim v [ ]

next : {x : Float} {n : ℕ} → n ≤ 2 ^ 52 → x ≡ whole n → add binary64 x one ≡ whole (n + 1)
next {x} {n} h e = one_more x n (subst (λ (z : Float). HasValue z false n 1) (sym e) (round_whole binary64 false n (omega arith)))

-- ---- the walk: the next whole length is how many samples there are

module _ (room : ℕ) (few : room ≤ 2 ^ 52) where
  data Counted : Walked → Type 0 where
    is_full : Counted full
    counts : {row : List Sample} {ix : Float} {last : Step} → ix ≡ whole (length row) → length row ≤ room → Counted (at row ix last)

  -- and it is above the limit
  data Stopped (limit : Float) : Walked → Type 0 where
    was_full : Stopped limit full
    stopped : {row : List Sample} {ix : Float} {last : Step} → ix ≡ whole (length row) → length row ≤ room → le ix limit ≡ false → Stopped limit (at row ix last)

  counted : {limit : Float} {w : Walked} → Stopped limit w → Counted w
  counted was_full = is_full
  counted (stopped is h less) = counts is h

  fill_stops : (k : ℕ) (t : Bool) (this : Step) (limit : Float) (row : List Sample) (ix : Float) (last : Step) → le ix limit ≡ t → ix ≡ whole (length row) → k + length row ≡ room →
      Stopped limit (fill_from k t this limit row ix last)
  unfolding fill_from
  fill_stops zero true this limit row ix last e is h = was_full
  fill_stops zero false this limit row ix last e is h = stopped {row = row} is (omega arith) e
  fill_stops (suc k) false this limit row ix last e is h = stopped {row = row} is (omega arith) e
  fill_stops (suc k) true this limit row ix last e is h =
      let more : length (row ++ (sample_at last this ix ∷ [])) ≡ length row + 1 = length-append row (sample_at last this ix ∷ []) in
      fill_stops k (le (add binary64 ix one) limit) this limit (row ++ (sample_at last this ix ∷ [])) (add binary64 ix one) last refl
      (next (omega arith) is ∙ ap whole (sym more)) (omega arith)

  filled_stops : (this : Step) (limit : Float) {w : Walked} → Counted w → Stopped limit (filled room this limit w)
  unfolding filled fill_to
  filled_stops this limit is_full = was_full
  filled_stops this limit (counts {row} {ix} {last} is h) = fill_stops (room - length row) (le ix limit) this limit row ix last refl is (omega arith)

  moved_counted : (this : Step) {w : Walked} → Counted w → Counted (moved_to this w)
  unfolding moved_to
  moved_counted this is_full = is_full
  moved_counted this (counts is h) = counts is h

  sweep_counted : (k : ℕ) (q : Quad) (t y : Float) {w : Walked} → Counted w → Counted (sweep_from k room q t y w)
  unfolding sweep_from
  sweep_counted zero q t y c = c
  sweep_counted (suc k) q t y c =
      let this = step_at q t y in
      sweep_counted k q (add binary64 t hundredth) (rk4_one (arclen_functor_of q) hundredth t y) (moved_counted this (counted (filled_stops this y c)))

  all_counted : (qs : List Quad) (y : Float) {w : Walked} → Counted w → Counted (sweep_all room qs y w)
  unfolding sweep_all
  all_counted [] y c = c
  all_counted (q ∷ qs) y c = all_counted qs (length_after q y) (sweep_counted 100 q nought y c)

  begins : Counted begun
  unfolding round of_bits
  begins = counts {row = []} refl (omega arith)

-- ---- the end

-- of the length y, in its last row
pub record Reached (n : ℕ) (y : Float) : Type 0 where
  pub size : ℕ
  pub is : Within size y
  pub more : size + 1 < n

above : (m : ℕ) (e : ℤ) (n : ℕ) → le (whole n) (add binary64 (fin false m e) two) ≡ false → m * up e / down e + 2 < n
unfolding add sum of_bits
above m e n h = lt_of_not-le (λ l. no l)
  where
    cut : ℕ
    cut = m * up e / down e

    no : n ≤ cut + 2 → ⊥
    no l =
        let all : n * down e ≤ (cut + 2) * down e = mul-le-mul_right (down e) l in
        let part = div-mul-le_self (m * up e) (down e) in
        let under : n * (down e * 1) ≤ (m * up e * 1 + 1 * 2 * down e) * 1 = omega (arith, add-mul cut 2 (down e)) in
        let t = round_mono binary64 n 1 (m * up e * 1 + 1 * 2 * down e) (down e * 1) (zero-lt-suc 0) (omega (arith, down_pos e)) under in
        absurd (subst T h t)

beyond_by : (n : ℕ) (x : Float) → HasValue x false n 1 → le x (add binary64 (inf false) two) ≡ false → ⊥
unfolding le add of_bits
beyond_by n (fin s m e) v h = false≢true (sym h)
beyond_by n lib.Ieee.nan v h = elim v [ ]
beyond_by n (inf _) v h = elim v [ ]

beyond : (n : ℕ) → n ≤ 2 ^ 52 → le (whole n) (add binary64 (inf false) two) ≡ false → ⊥
beyond n few h = beyond_by n (whole n) (round_whole binary64 false n (omega arith)) h

reaches : (n : ℕ) {y : Float} → n ≤ 2 ^ 52 → Size y → le (whole n) (add binary64 y two) ≡ false → Reached n y
reaches n few endless h = absurd (beyond n few h)
reaches n few (number m e) h =
    let cut = m * up e / down e in
    record {
      size = cut + 1;
      is = within false m e (omega (arith, lt-div-mul-add {a = m * up e} (down_pos e), add-mul cut 1 (down e)));
      more = omega (arith, above m e n h);
    }

module _ (room : ℕ) (few : room ≤ 2 ^ 52) where
  ended : {y : Float} {w : Walked} {row : List Sample} {len : Float} → Size y → Stopped room few (add binary64 y two) w → run_of y w ≡ sampled row len → (length row ≤ room) × Reached (length row) len
  ended z was_full e = absurd cc
  ended {y} {row = row} {len} z (stopped {row = r} {ix} is h less) e =
      let rows : r ≡ row = cc in
      let lens : y ≡ len = cc in
      let n : length r ≤ 2 ^ 52 = omega arith in (
        subst (λ (l : List Sample). length l ≤ room) rows h,
        subst (λ (l : List Sample). Reached (length l) len) rows
            (subst (λ (l : Float). Reached (length r) l) lens (reaches (length r) n z (subst (λ (x : Float). le x (add binary64 y two) ≡ false) is less))),
      )

  -- the samples of a run whose length is no NaN and not negative
  pub run_reaches : (qs : List Quad) (row : List Sample) (len : Float) → Size (length_all qs nought) → thetas_of room qs ≡ sampled row len → (length row ≤ room) × Reached (length row) len
  unfolding thetas_of finished
  run_reaches qs row len z e =
      let y = length_all qs nought in
      ended z (filled_stops room few (last_step (last_of nowhere qs) y) (add binary64 y two) (all_counted room few qs nought (begins room few))) e
