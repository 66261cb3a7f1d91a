-- The segments that the runs hold: in closed mode each exactly once. Theorems on the definitions, for a reader: no proof of a function uses
-- them. Assumes nothing.
use Prim.Native.Nat.{ℕ, zero, suc, ◌+◌, ◌-◌, ◌%◌, ◌≤◌, ◌<◌}
use mathlib.Core.Bool.{Bool, true, false, false≢true}
use mathlib.Core.List.{List, [], ◌∷◌, ◌++◌, map}
use mathlib.Core.Logic.{◌⊎◌, inl, inr}
use mathlib.Core.Path.{◌≡◌, refl, sym, ap, ◌∙◌, subst}
use native.Mathlib.Nat.{eq-or-lt_of_le, lt_of_not-le, mod-eq_of_lt, add-mod_left}
use native.Mathlib.Omega.{arith}
use borrow.Author.Tests.{eq-eqb, ne_eqb, ltb-true, ltb-false}
use lib.Dec.{eqb, ltb}
use lib.IntN.{ℤ}
use lib.ListN.{get_or}
use Rattle.outline.specs.Segments.{one_more, count_of}
use Rattle.corners.specs.Corners.{corners_of}
use Rattle.corners.proofs.Reasons.{no_corner_past}
use Rattle.runs.specs.Runs.{marks_from, corner_list, between, going_round, stops_of, runs_of}
use Rattle.runs.specs.Covered.{upward, segments_in, how_often, last_from, RunsGoRound, EachSegmentOnce, RunsFromFirstToLast}

-- ---- corners rise, and lie below the number of segments

data Rising (top : ℕ) : ℕ → List ℕ → Type 0 where
  ends : {a : ℕ} → a ≤ top → Rising top a []
  next : {a b : ℕ} {l : List ℕ} → a ≤ b → Rising top b l → Rising top a (b ∷ l)

-- where no place from top on is marked
marks_rise : (top : ℕ) (marks : List Bool) (a i : ℕ) → a ≤ i → a ≤ top →
    ((j : ℕ) → top ≤ i + j → get_or marks j false ≡ false) → Rising top a (marks_from marks i)
unfolding marks_from
marks_rise top [] a i h t none = ends t
marks_rise top (false ∷ marks) a i h t none = marks_rise top marks a (i + 1) (omega arith) t (λ j p. none (suc j) (omega arith))
marks_rise top (true ∷ marks) a i h t none =
    let low : i < top = lt_of_not-le (λ p. false≢true (sym (none 0 (omega arith)))) in
    next h (marks_rise top marks i (i + 1) (omega arith) (omega arith) (λ j p. none (suc j) (omega arith)))

corners_rise : (xs ys : List ℤ) (fs : List ℕ) → Rising (count_of fs) 0 (corner_list xs ys fs)
unfolding corner_list
corners_rise xs ys fs = marks_rise (count_of fs) (corners_of xs ys fs 1024) 0 0 (omega arith) (omega arith) (λ j p. no_corner_past xs ys fs 1024 j (omega arith))

-- the top may be put at the end, or further up
further : {top more a : ℕ} {l : List ℕ} → top ≤ more → Rising top a l → Rising more a (l ++ (more ∷ []))
further {more = more} {a = a} h (ends t) = next {a = a} {b = more} (omega arith) (ends {a = more} (omega arith))
further h (next p r) = next p (further h r)

last_up : {top a : ℕ} {l : List ℕ} → Rising top a l → a ≤ last_from a l
unfolding last_from
last_up (ends t) = omega arith
last_up (next p r) = omega (arith, p, last_up r)

last_low : {top a : ℕ} {l : List ℕ} → Rising top a l → last_from a l ≤ top
unfolding last_from
last_low (ends t) = t
last_low (next p r) = last_low r

last_is : (a b : ℕ) (l : List ℕ) → last_from a (l ++ (b ∷ [])) ≡ b
unfolding last_from
last_is a b [] = refl
last_is a b (c ∷ l) = last_is c b l

-- ---- the segments of the runs between corners, one after the other

same : {a b k m : ℕ} → a ≡ b → k ≡ m → upward a k ≡ upward b m
same p q = rw (p, q) refl

upward_append : (a k m : ℕ) → upward a (k + m) ≡ upward a k ++ upward (a + k) m
unfolding upward
upward_append a zero m =
    let p : a ≡ a + 0 = omega arith in
    let q : 0 + m ≡ m = omega arith in
    same p q
upward_append a (suc k) m =
    let p : suc k + m ≡ suc (k + m) = omega arith in
    let q : suc a + k ≡ a + suc k = omega arith in
    same {a = a} refl p ∙ ap (λ (l : List ℕ). a ∷ l) (upward_append (suc a) k m ∙ ap (λ (b : ℕ). upward (suc a) k ++ upward b m) q)

module _ (n : ℕ) where
  abbrev round : List ℕ → List ℕ
  round l = map (λ (i : ℕ). i % n) l

  round_append : (l m : List ℕ) → round (l ++ m) ≡ round l ++ round m
  round_append [] m = refl
  round_append (i ∷ l) m = ap (λ (r : List ℕ). (i % n) ∷ r) (round_append l m)

  all_segments : {top a : ℕ} {l : List ℕ} → Rising top a l → segments_in n (between (a ∷ l)) ≡ round (upward a (last_from a l - a))
  unfolding segments_in between last_from upward
  all_segments {a = a} (ends t) =
      let none : 0 ≡ a - a = omega arith in
      ap (λ (k : ℕ). round (upward a k)) none
  all_segments {a = a} (next {b = b} {l = l} p r) =
      let there : b ≡ a + (b - a) = omega (arith, p) in
      let whole : (b - a) + (last_from b l - b) ≡ last_from b l - a = omega (arith, p, last_up r) in
      ap (λ (rest : List ℕ). round (upward a (b - a)) ++ rest) (all_segments r ∙ ap (λ (c : ℕ). round (upward c (last_from b l - b))) there)
      ∙ sym (round_append (upward a (b - a)) (upward (a + (b - a)) (last_from b l - b)))
      ∙ ap round (sym (upward_append a (b - a) (last_from b l - b)) ∙ same {a = a} refl whole)

  -- below n a number is itself; from n on it goes round
  below : (a k : ℕ) → a + k ≤ n → round (upward a k) ≡ upward a k
  unfolding upward
  below a zero h = refl
  below a (suc k) h =
      let low : a < n = omega arith in
      rw (mod-eq_of_lt low, below (suc a) k (omega arith)) refl

  past : (a k : ℕ) → a + k ≤ n → round (upward (n + a) k) ≡ upward a k
  unfolding upward
  past a zero h = refl
  past a (suc k) h =
      let low : a < n = omega arith in
      let up : suc (n + a) ≡ n + suc a = omega arith in
      rw (add-mod_left n a, mod-eq_of_lt low, up, past (suc a) k (omega arith)) refl

  all_round : (a : ℕ) → a ≤ n → round (upward a (a + n - a)) ≡ upward a (n - a) ++ upward 0 a
  all_round a h =
      let parts : a + n - a ≡ (n - a) + a = omega arith in
      let there : a + (n - a) ≡ n + 0 = omega arith in
      ap round (same {a = a} refl parts ∙ upward_append a (n - a) a ∙ ap (λ (b : ℕ). upward a (n - a) ++ upward b a) there)
      ∙ round_append (upward a (n - a)) (upward (n + 0) a)
      ∙ rw (below a (n - a) (omega arith), past 0 a (omega arith)) refl

-- ---- the theorems

module _ (xs ys : List ℤ) (fs : List ℕ) (a : ℕ) (corners : List ℕ) (e : corner_list xs ys fs ≡ a ∷ corners) where
  from_first : Rising (count_of fs) a corners
  from_first = after (subst (Rising (count_of fs) 0) e (corners_rise xs ys fs))
    where
      after : {top b c : ℕ} {l : List ℕ} → Rising top b (c ∷ l) → Rising top c l
      after (next p r) = r

  first_low : a ≤ count_of fs
  first_low = omega (arith, last_up from_first, last_low from_first)

pub runs_go_round : RunsGoRound
unfolding runs_of stops_of
runs_go_round xs ys fs a corners e =
    let n = count_of fs in
    let rise = from_first xs ys fs a corners e in
    let low : a ≤ n = first_low xs ys fs a corners e in
    let up : n ≤ a + n = omega arith in
    ap (λ (l : List ℕ). segments_in n (between (going_round n l))) e
    ∙ all_segments n (further up rise)
    ∙ ap (λ (b : ℕ). map (λ (i : ℕ). i % n) (upward a (b - a))) (last_is a (a + n) corners)
    ∙ all_round n a low

pub runs_from_first_to_last : RunsFromFirstToLast
unfolding runs_of stops_of
runs_from_first_to_last xs ys fs a corners e =
    let n = count_of fs in
    let rise = from_first xs ys fs a corners e in
    let up = last_up rise in
    let low = last_low rise in
    ap (λ (l : List ℕ). segments_in n (between l)) e ∙ all_segments n rise ∙ below n a (last_from a corners - a) (omega (arith, up, low))

-- ---- how often

module _ (s : ℕ) where
  added : (b : Bool) (m k : ℕ) → one_more b (m + k) ≡ one_more b m + k
  added true m k = omega arith
  added false m k = refl

  often_append : (l m : List ℕ) → how_often s (l ++ m) ≡ how_often s l + how_often s m
  unfolding how_often
  often_append [] m = omega arith
  often_append (i ∷ l) m = ap (one_more (eqb s i)) (often_append l m) ∙ added (eqb s i) (how_often s l) (how_often s m)

  not_before : (a k : ℕ) → s < a → how_often s (upward a k) ≡ 0
  unfolding how_often upward
  not_before a zero h = refl
  not_before a (suc k) h = rw (ne_eqb s a (λ p. omega arith)) (not_before (suc a) k (omega arith))

  not_after : (a k : ℕ) → a + k ≤ s → how_often s (upward a k) ≡ 0
  unfolding how_often upward
  not_after a zero h = refl
  not_after a (suc k) h = rw (ne_eqb s a (λ p. omega arith)) (not_after (suc a) k (omega arith))

  once : (a k : ℕ) → a ≤ s → s < a + k → how_often s (upward a k) ≡ 1
  unfolding how_often upward
  once a zero h t = absurd (omega arith)
  once a (suc k) h t = by (eq-or-lt_of_le h) (λ p. once (suc a) k p (omega arith))
    where
      by : (a ≡ s) ⊎ (a < s) → (a < s → how_often s (upward (suc a) k) ≡ 1) → one_more (eqb s a) (how_often s (upward (suc a) k)) ≡ 1
      by (inl p) later = rw (eq-eqb s a (sym p)) (ap suc (not_before (suc a) k (omega arith)))
      by (inr p) later = rw (ne_eqb s a (λ q. omega arith)) (later p)

  once_round : (a n : ℕ) → a ≤ n → s < n → how_often s (upward a (n - a) ++ upward 0 a) ≡ 1
  once_round a n h t = often_append (upward a (n - a)) (upward 0 a) ∙ by (ltb s a) refl
    where
      by : (b : Bool) → ltb s a ≡ b → how_often s (upward a (n - a)) + how_often s (upward 0 a) ≡ 1
      by true p =
          let l : s < a = ltb-true s a p in
          omega (arith, not_before a (n - a) l, once 0 a (omega arith) (omega arith))
      by false p =
          let l : a ≤ s = ltb-false s a p in
          omega (arith, once a (n - a) l (omega arith), not_after 0 a (omega arith))

pub each_segment_once : EachSegmentOnce
each_segment_once xs ys fs a corners e s h =
    ap (how_often s) (runs_go_round xs ys fs a corners e)
    ∙ once_round s a (count_of fs) (first_low xs ys fs a corners e) h
