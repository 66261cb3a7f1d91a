-- Laws for callers: how many pairs a run tries. Assumes nothing.
use Rattle.std.specs.Prelude.{ℕ, zero, suc, ◌+◌, ◌*◌, ◌-◌, ◌/◌, ◌≤◌, ◌<◌, ◌++◌, Bool, true, false, ◌⊎◌, ◌≡◌, refl, length, replicate, Float}
use Rattle.std.proofs.Common.{mul-add, add-mul, zero-mul, mul-le-mul, arith, inl, inr, ⊎_elim, ap, subst, ◌∙◌, length-append}
use Rattle.std.specs.Float.Ieee.{lt}
use Rattle.breaks.specs.Breaks.{Row}
use Rattle.attempt.specs.Answers.{Statelet, score_of, Best, none, best}
use Rattle.optimize.specs.Optimize.{Measure, best_at, States, refused, states, try_line_quad, try_all, splits_from, splits, falling, search_from, search}
use Rattle.optimize.specs.Optimize.{Optimised, refused8, unchanged, solved, pairs_after_splits, pairs_after_search, ended, chosen_if, go_on}
use Rattle.optimize.specs.Optimize.{searched, splitted, tried, optimize_of}

splits_count : (k i n : ℕ) → length (splits_from k i n) ≡ 2 * k
unfolding splits_from
splits_count zero i n = refl
splits_count (suc k) i n = let e = splits_count k (i + 1) n in omega arith

-- 2 * (n - 1)
pub split_pairs : (n : ℕ) → length (splits n) ≡ 2 * (n - 1)
split_pairs n = splits_count (n - 1) 1 n

pub falling_count : (j i : ℕ) → length (falling j i) ≡ j
unfolding falling
falling_count zero i = refl
falling_count (suc j) i = ap suc (falling_count j i)

search_count : (k i : ℕ) → 2 * length (search_from k i) + k ≡ k * (2 * i + k)
unfolding search_from
search_count zero i = omega (arith, zero-mul (2 * i + 0))
search_count (suc k) i =
    let here : length (falling i i ++ search_from k (i + 1)) ≡ i + length (search_from k (i + 1)) =
    length-append (falling i i) (search_from k (i + 1)) ∙ ap (λ (a : ℕ). a + length (search_from k (i + 1))) (falling_count i i) in
    let later = search_count k (i + 1) in
    let wide : k * (2 * (i + 1) + k) ≡ k * (2 * i + k) + k * 2 =
    ap (λ (a : ℕ). k * a) (rearranged i k) ∙ mul-add k (2 * i + k) 2 in
    let whole : suc k * (2 * i + suc k) ≡ k * (2 * i + k) + k + (2 * i + k + 1) = expanded k (2 * i + k) i in
    omega arith
  where
    rearranged : (i k : ℕ) → 2 * (i + 1) + k ≡ 2 * i + k + 2
    rearranged i k = omega arith

    expanded : (k m i : ℕ) → suc k * (2 * i + suc k) ≡ k * (2 * i + k) + k + (2 * i + k + 1)
    expanded k m i =
        let e : suc k ≡ k + 1 = omega arith in
        let f : 2 * i + (k + 1) ≡ 2 * i + k + 1 = omega arith in
        rw (e, f) (add-mul k 1 (2 * i + k + 1) ∙ ap (λ (a : ℕ). a + 1 * (2 * i + k + 1)) (mul-add k (2 * i + k) 1) ∙ omega arith)

-- n * (n + 1) / 2
pub search_pairs : (n : ℕ) → n * (n + 1) / 2 ≡ length (search n)
search_pairs n =
    let e = search_count n 1 in
    let f : n * (2 * 1 + n) ≡ n * (n + 1) + n = ap (λ (a : ℕ). n * a) (order n) ∙ mul-add n (n + 1) 1 ∙ omega arith in
    omega arith
  where
    order : (n : ℕ) → 2 * 1 + n ≡ n + 1 + 1
    order n = omega arith

pub few_pairs : (n : ℕ) → n < 2048 → length (search n) ≤ 2096128
few_pairs n h =
    let upto : n ≤ 2047 = omega arith in
    let more : n + 1 ≤ 2048 = omega arith in
    let most : n * (n + 1) ≤ 2047 * 2048 = mul-le-mul upto more in
    omega (arith, search_pairs n)

-- ---- the pairs of a run with the breaks 0 to n: after the first pair, after the splits, and after the search

abbrev pub Tries : ℕ → ℕ → Type 0
Tries n p = (p ≡ 1) ⊎ ((p ≡ 1 + 2 * (n - 1)) ⊎ (p ≡ 1 + 2 * (n - 1) + n * (n + 1) / 2))

abbrev Counted : ℕ → Optimised → Type 0
Counted n refused8 = Unit
Counted n (unchanged p) = Tries n p
Counted n (solved a p) = Tries n p

module _ (measure : Measure) (breaks : Row) (penalty : Float) where
  abbrev last : ℕ
  last = length breaks - 1

  ends : (p : ℕ) (b : Best) → Tries last p → Counted last (ended measure breaks penalty p b)
  ends p none t = t
  ends p (best a) t = t

  goes_on : (limit : Float) (p : ℕ) (b : Best) (next : Optimised) → Tries last p → Counted last next → Counted last (go_on measure breaks penalty limit p b next)
  goes_on limit p none next t later = t
  goes_on limit p (best a) next t later = chosen (lt limit (score_of a))
    where
      chosen : (above : Bool) → Counted last (chosen_if measure breaks penalty above next (solved a p))
      chosen true = later
      chosen false = t

  after_search : (s : States) → Counted last (searched measure breaks penalty s)
  after_search refused = tt
  after_search (states st) = ends (pairs_after_search measure breaks penalty) (best_at st last) (inr (inr (rw (split_pairs last, search_pairs last) refl)))

  after_splits_lem : (s : States) → Counted last (splitted measure breaks penalty s)
  after_splits_lem refused = tt
  after_splits_lem (states st) =
      goes_on _ (pairs_after_splits measure breaks penalty) (best_at st last) _ (inr (inl (rw (split_pairs last) refl)))
      (after_search (try_all measure breaks penalty (search last) (states st)))

  after_first : (s : States) → Counted last (tried measure breaks penalty s)
  after_first refused = tt
  after_first (states st) = goes_on _ 1 (best_at st last) _ (inl refl) (after_splits_lem (try_all measure breaks penalty (splits last) (states st)))

  counted : Counted last (optimize_of measure breaks penalty)
  unfolding optimize_of
  counted = after_first (try_line_quad measure breaks penalty 0 last (replicate (length breaks) none))

  pub pairs_are : {a : Statelet} {p : ℕ} → optimize_of measure breaks penalty ≡ solved a p → Tries last p
  pairs_are e = subst (Counted last) e counted

  pub pairs_are_unchanged : {p : ℕ} → optimize_of measure breaks penalty ≡ unchanged p → Tries last p
  pairs_are_unchanged e = subst (Counted last) e counted

-- a run with one break tries one pair
pub pairs_one : {n p : ℕ} → n ≡ 0 → Tries n p → p ≡ 1
pairs_one {n} {p} e t = ⊎_elim (λ h. h) (⊎_elim (λ h. omega arith) (λ h. h ∙ rw e refl)) t

-- the most pairs, which a run with 2048 breaks may try
abbrev pub most_pairs : ℕ
most_pairs = 2100221

-- all pairs of a run
pub all_few : (n : ℕ) → n < 2048 → 1 + length (splits n) + length (search n) ≤ most_pairs
all_few n few = omega (arith, few_pairs n few, split_pairs n)

tries_few : {n p : ℕ} → n < 2048 → Tries n p → p ≤ most_pairs
tries_few {n} {p} few t =
    let most = few_pairs n few in
    let is = search_pairs n in
    ⊎_elim (λ h. omega arith) (⊎_elim (λ h. omega arith) (λ h. omega arith)) t

module _ (measure : Measure) (breaks : Row) (penalty : Float) (few : length breaks ≤ 2048) where
  few_last : length breaks - 1 < 2048
  few_last = omega arith

  pub pairs_few : {a : Statelet} {p : ℕ} → optimize_of measure breaks penalty ≡ solved a p → p ≤ most_pairs
  pairs_few e = tries_few few_last (pairs_are measure breaks penalty e)

  pub pairs_few_unchanged : {p : ℕ} → optimize_of measure breaks penalty ≡ unchanged p → p ≤ most_pairs
  pairs_few_unchanged e = tries_few few_last (pairs_are_unchanged measure breaks penalty e)
