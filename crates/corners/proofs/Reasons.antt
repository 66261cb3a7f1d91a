-- An index is a corner exactly when one of its tests holds, and no index past the segments is one: specs/Statements. Assumes nothing.
use Prim.Native.Nat.{ℕ, zero, suc, ◌≤◌, ◌<◌}
use mathlib.Core.Bool.{Bool, true, false, ◌||◌, or-true, or-false}
use mathlib.Core.List.{List}
use mathlib.Core.Logic.{◌⊎◌, inl, inr, ◌≢◌}
use mathlib.Core.Path.{◌≡◌, refl, sym, ap, ◌∙◌}
use native.Mathlib.Nat.{eq-or-lt_of_le}
use native.Mathlib.Omega.{arith}
use lib.IntN.{ℤ}
use lib.ListN.{length, get_or, length-set, length-replicate, get_or-replicate}
use lib.Seq.{get_or-set_same, get_or-set_other}
use Rattle.outline.specs.Segments.{count_of, origin}
use Rattle.corners.specs.Corners.{none, mark_if, marked, turn_at, tangent_at, after_first, corners_of}
use Rattle.corners.specs.Statements.{CornerWhenTested, NoCornerPastSegments}

abbrev at : List Bool → ℕ → Bool
at marks k = get_or marks k false

here : (t : Bool) (marks : List Bool) (k : ℕ) → k < length marks → at (mark_if t marks k) k ≡ (at marks k || t)
here true marks k h = get_or-set_same marks k true false h ∙ sym (or-true (at marks k))
here false marks k h = sym (or-false (at marks k))

elsewhere : (t : Bool) (marks : List Bool) (j k : ℕ) → k ≢ j → at (mark_if t marks j) k ≡ at marks k
elsewhere true marks j k h = get_or-set_other marks j k true false h
elsewhere false marks j k h = refl

module _ (test : ℕ → Bool) (marks : List Bool) where
  marked_length : (m : ℕ) → length (marked test m marks) ≡ length marks
  unfolding marked
  marked_length zero = refl
  marked_length (suc m) = kept (test m) ∙ marked_length m
    where
      kept : (t : Bool) → length (mark_if t (marked test m marks) m) ≡ length (marked test m marks)
      kept true = length-set (marked test m marks) m true
      kept false = refl

  -- a place that is not tested keeps its mark
  untested : (m k : ℕ) → m ≤ k → at (marked test m marks) k ≡ at marks k
  unfolding marked
  untested zero k h = refl
  untested (suc m) k h = elsewhere (test m) (marked test m marks) m k (λ e. omega arith) ∙ untested m k (omega arith)

  -- one that is tested has a mark where it had one or passes
  tested : (m k : ℕ) → k < m → k < length marks → at (marked test m marks) k ≡ (at marks k || test k)
  unfolding marked
  tested zero k h l = absurd (omega arith)
  tested (suc m) k h l = by (eq-or-lt_of_le (last h)) (λ lt. tested m k lt l)
    where
      last : k < suc m → k ≤ m
      last p = omega arith

      by : (k ≡ m) ⊎ (k < m) → (k < m → at (marked test m marks) k ≡ (at marks k || test k)) →
          at (mark_if (test m) (marked test m marks) m) k ≡ (at marks k || test k)
      by (inr lt) before = elsewhere (test m) (marked test m marks) m k (λ e. omega arith) ∙ before lt
      by (inl eq) before =
          rw eq (here (test m) (marked test m marks) m (rw marked_length (omega arith)) ∙ ap (λ (b : Bool). b || test m) (untested m m (omega arith)))

unmarked : (n k : ℕ) → at (none n) k ≡ false
unmarked zero k = refl
unmarked (suc n) zero = refl
unmarked (suc n) (suc k) = unmarked n k

-- tests that mark from no mark on: one alone, and two one after the other
module _ (m n k : ℕ) (h : k < m) (l : k < n) where
  none_length : k < length (none n)
  none_length = rw length-replicate l

  pub marked_when : (test : ℕ → Bool) → at (marked test m (none n)) k ≡ test k
  marked_when test = tested test (none n) m k h none_length ∙ rw (get_or-replicate n k false false l)

  pub twice_when : (first second : ℕ → Bool) → at (marked second m (marked first m (none n))) k ≡ (first k || second k)
  twice_when first second =
      let long : k < length (marked first m (none n)) = rw marked_length none_length in
      tested second (marked first m (none n)) m k h long ∙ ap (λ (b : Bool). b || second k) (marked_when first)

module _ (xs ys : List ℤ) (fs : List ℕ) (n : ℕ) where
  -- marked in the first round, and in both
  abbrev once : List Bool
  once = marked (turn_at xs ys fs origin) (count_of fs) (none n)

  abbrev twice : List Bool
  twice = marked (turn_at xs ys fs (after_first xs ys fs)) (count_of fs) once

pub corner_when : CornerWhenTested
unfolding corners_of
corner_when xs ys fs n k h l =
    let m = count_of fs in
    let l₀ : k < length (none n) = rw length-replicate l in
    let l₁ : k < length (once xs ys fs n) = rw marked_length l₀ in
    let l₂ : k < length (twice xs ys fs n) = rw marked_length l₁ in
    tested (tangent_at xs ys fs m) (twice xs ys fs n) m k h l₂
    ∙ rw (
      tested (turn_at xs ys fs (after_first xs ys fs)) (once xs ys fs n) m k h l₁,
      tested (turn_at xs ys fs origin) (none n) m k h l₀,
      get_or-replicate n k false false l,
    )

pub no_corner_past : NoCornerPastSegments
unfolding corners_of
no_corner_past xs ys fs n k h =
    let m = count_of fs in
    untested (tangent_at xs ys fs m) (twice xs ys fs n) m k h
    ∙ untested (turn_at xs ys fs (after_first xs ys fs)) (once xs ys fs n) m k h
    ∙ untested (turn_at xs ys fs origin) (none n) m k h
    ∙ unmarked n k
