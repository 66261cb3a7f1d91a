-- The corners listed, one mark after the other; and run k between listed corners. Assumes nothing.
use Rattle.std.specs.Prelude.{Some, None}
use Prim.Native.Nat.{ℕ, zero, suc, ◌+◌, ◌-◌, ◌≤◌, ◌<◌, min}
use native.Mathlib.Numerals.{add-one}
use native.Mathlib.Omega.{arith}
use native.Mathlib.Decide.{dec_lt}
use mathlib.Core.Bool.{Bool, true, false, true≢false}
use mathlib.Core.List.{List, [], ◌∷◌, ◌++◌, append_assoc, append-nil}
use mathlib.Core.Path.{◌≡◌, refl, sym, ap, ◌∙◌}
use lib.IntN.{ℤ}
use lib.ListN.{length, get_or, take, drop, set, length-set, length-take, drop_of_length-le, get_or-eq_default}
use lib.Seq.{drop-cons, get_or-take, take_all, take-suc-set}
use Rattle.outline.specs.Segments.{count_of}
use Rattle.outline.specs.Laws.{count_few}
use Rattle.corners.specs.Corners.{corners_of}
use Rattle.corners.proofs.Reasons.{corner_when, no_corner_past}
use Rattle.runs.specs.Runs.{marks_from, corner_list, going_round, between, run_at, Listed}

-- what is listed after i marks, of which n were set, and what is left to list
pub record Listing (marks : List Bool) (long : ℕ) (row : List ℕ) (n i : ℕ) : Type 0 where
  pub kept : length row ≡ long
  pub upto : i ≤ length marks
  pub few : n ≤ i
  pub rest : marks_from marks 0 ≡ take n row ++ marks_from (drop i marks) i

module _ (marks : List Bool) where
  pub listing_start : (row : List ℕ) → Listing marks (length row) row 0 0
  listing_start row = record { kept = refl; upto = omega arith; few = omega arith; rest = refl }

  module _ {long : ℕ} {row : List ℕ} {n i : ℕ} (now : Listing marks long row n i) where
    pub listing_mark : i < length marks → length marks ≤ long → get_or marks i false ≡ true → Listing marks long (set row n i) (n + 1) (i + 1)
    unfolding marks_from
    listing_mark h fits e =
        let here : n < length row = omega (arith, now.kept, now.few) in
        record {
          kept = length-set row n i ∙ now.kept;
          upto = omega arith;
          few = omega (arith, now.few);
          rest =
              let split : marks_from (drop i marks) i ≡ i ∷ marks_from (drop (suc i) marks) (i + 1) = rw (drop-cons marks i false h, e) refl in
              now.rest ∙ ap (λ (l : List ℕ). take n row ++ l) split ∙ sym (rw (add-one n, take-suc-set row n i here, append_assoc, add-one i) refl);
        }

    pub listing_pass : i < length marks → get_or marks i false ≡ false → Listing marks long row n (i + 1)
    unfolding marks_from
    listing_pass h e =
        record {
          kept = now.kept;
          upto = omega arith;
          few = omega (arith, now.few);
          rest = now.rest ∙ rw (drop-cons marks i false h, e) (ap (λ (k : ℕ). take n row ++ marks_from (drop k marks) (i + 1)) (sym (add-one i)));
        }

    pub listed : length marks ≤ i → length marks ≤ long → Listed row n (marks_from marks 0)
    unfolding marks_from
    listed h fits =
        record {
          within = omega (arith, now.kept, now.few, now.upto);
          are = sym (now.rest ∙ rw (drop_of_length-le marks h) (append-nil (take n row)));
        }

    pub listed_few : length marks ≤ long → n ≤ length marks
    listed_few fits = omega (arith, now.few, now.upto)

-- rows that agree at each place, where past its end a row has no mark
marks_same : (a b : List Bool) (i : ℕ) → ((j : ℕ) → get_or a j false ≡ get_or b j false) → marks_from a i ≡ marks_from b i
unfolding marks_from
marks_same [] [] i e = refl
marks_same [] (true ∷ b) i e = absurd (true≢false (sym (e 0)))
marks_same [] (false ∷ b) i e = marks_same [] b (i + 1) (λ j. e (suc j))
marks_same (true ∷ a) [] i e = absurd (true≢false (e 0))
marks_same (false ∷ a) [] i e = marks_same a [] (i + 1) (λ j. e (suc j))
marks_same (true ∷ a) (true ∷ b) i e = ap (λ (l : List ℕ). i ∷ l) (marks_same a b (i + 1) (λ j. e (suc j)))
marks_same (true ∷ a) (false ∷ b) i e = absurd (true≢false (e 0))
marks_same (false ∷ a) (true ∷ b) i e = absurd (true≢false (sym (e 0)))
marks_same (false ∷ a) (false ∷ b) i e = marks_same a b (i + 1) (λ j. e (suc j))

module _ (xs ys : List ℤ) (fs : List ℕ) (marks : List Bool) (n m count : ℕ) (is : marks ≡ corners_of xs ys fs n) (counted : count ≡ count_of fs) where
  -- the marks of all segments, in a row that has a place for each
  taken_agree : m ≡ count → count ≤ n → count < 1024 → (j : ℕ) → get_or (take m marks) j false ≡ get_or (corners_of xs ys fs 1024) j false
  taken_agree all fits few j = by (dec_lt j count)
    where
      by : Dec (j < count) → get_or (take m marks) j false ≡ get_or (corners_of xs ys fs 1024) j false
      by (yes h) =
          get_or-take m marks j false (omega arith)
          ∙ rw is (corner_when xs ys fs n j (omega arith) (omega arith) ∙ sym (corner_when xs ys fs 1024 j (omega arith) (omega arith)))
      by (no h) =
          get_or-eq_default (take m marks) false (omega (arith, length-take m marks))
          ∙ sym (no_corner_past xs ys fs 1024 j (omega arith))

  -- past the last segment no place is marked
  pub corners_taken : min (length fs) 1024 ≤ n → n ≤ 1024 → length marks ≡ n → m ≡ min count 1024 → marks_from (take m marks) 0 ≡ corner_list xs ys fs
  unfolding corner_list
  corners_taken enough few long least = by (dec_lt count 1024)
    where
      by : Dec (count < 1024) → marks_from (take m marks) 0 ≡ marks_from (corners_of xs ys fs 1024) 0
      by (yes some) = marks_same (take m marks) (corners_of xs ys fs 1024) 0 (taken_agree (omega arith) (omega (arith, count_few fs)) some)
      by (no many) =
          let full : n ≡ 1024 = omega (arith, count_few fs) in
          rw (take_all m marks (omega arith), is, full) refl

-- no index listed is past the marks
marks_low : (marks : List Bool) (i j : ℕ) → get_or (marks_from marks i) j 0 ≤ i + length marks
unfolding marks_from
marks_low [] i j = omega arith
marks_low (true ∷ marks) i zero = omega arith
marks_low (true ∷ marks) i (suc j) = omega (arith, marks_low marks (i + 1) j)
marks_low (false ∷ marks) i j = omega (arith, marks_low marks (i + 1) j)

pub first_low : (marks : List Bool) {row : List ℕ} {n : ℕ} → Listed row n (marks_from marks 0) → 0 < n → get_or row 0 0 ≤ length marks
first_low marks {row} {n} l some = omega (arith, marks_low marks 0 0, ap (λ (list : List ℕ). get_or list 0 0) l.are, first_taken row n some)
  where
    first_taken : (row : List ℕ) (n : ℕ) → 0 < n → get_or (take n row) 0 0 ≡ get_or row 0 0
    first_taken [] zero h = refl
    first_taken [] (suc n) h = refl
    first_taken (a ∷ row) zero h = absurd (omega arith)
    first_taken (a ∷ row) (suc n) h = refl

-- ---- the stops

-- the first corner once more, after the others
round_is : (row : List ℕ) (n segments : ℕ) → 0 < n → 0 < length row → take n row ++ ((get_or row 0 0 + segments) ∷ []) ≡ going_round segments (take n row)
round_is [] n segments some h = absurd (omega arith)
round_is (a ∷ row) zero segments some h = absurd (omega arith)
round_is (a ∷ row) (suc n) segments some h = refl

pub goes_round : (segments : ℕ) {row corners : List ℕ} {n : ℕ} → Listed row n corners → 0 < n → n < length row →
    Listed (set row n (get_or row 0 0 + segments)) (n + 1) (going_round segments corners)
goes_round segments {row} {corners} {n} l some fits = record {
  within = omega (arith, length-set row n (get_or row 0 0 + segments));
  are = rw add-one (take-suc-set row n (get_or row 0 0 + segments) fits ∙ round_is row n segments some (omega arith) ∙ ap (going_round segments) l.are);
}

-- closed, of no corner there is no stop
pub none_round : (segments : ℕ) {row corners : List ℕ} {n : ℕ} → Listed row n corners → n ≡ 0 → Listed row n (going_round segments corners)
none_round segments {row} {corners} {n} l e =
    let empty : corners ≡ [] = sym l.are ∙ ap (λ (k : ℕ). take k row) e in
    record { within = l.within; are = l.are ∙ empty ∙ sym (ap (going_round segments) empty) }

-- ---- run k

pub run_is : (corners : List ℕ) (k : ℕ) → k < length corners - 1 → run_at (between corners) k ≡ Some (record { first = (get_or corners k 0); count = (get_or corners (suc k) 0 - get_or corners k 0) })
unfolding run_at between
run_is [] k h = absurd (omega arith)
run_is (a ∷ []) k h = absurd (omega arith)
run_is (a ∷ b ∷ corners) zero h = refl
run_is (a ∷ b ∷ corners) (suc k) h = run_is (b ∷ corners) k (omega arith)

pub run_past : (corners : List ℕ) (k : ℕ) → length corners - 1 ≤ k → run_at (between corners) k ≡ None
unfolding run_at between
run_past [] k h = refl
run_past (a ∷ []) k h = refl
run_past (a ∷ b ∷ corners) zero h = absurd (omega arith)
run_past (a ∷ b ∷ corners) (suc k) h = run_past (b ∷ corners) k (omega arith)
