-- One point more, by what the code has found out of the row; and the walk over the segments of a contour. Assumes nothing.
use Prim.Native.Nat.{ℕ, ◌+◌, ◌≤◌, ◌<◌}
use mathlib.Core.Bool.{Bool, true, false}
use mathlib.Core.List.{List, [], ◌∷◌, ◌++◌}
use mathlib.Core.Path.{◌≡◌, refl, ap, ◌∙◌}
use native.Mathlib.Nat.{le_antisymm}
use native.Mathlib.Numerals.{add-one}
use native.Mathlib.Omega.{arith}
use borrow.Author.Tests.{lt-ltb, le-ltb}
use lib.IntN.{ℤ}
use lib.ListN.{length, take, set, length-append}
use lib.Seq.{length-take-le, take_all, take-suc-set}
use Rattle.outline.specs.declared.Seg.{Seg}
use Rattle.outline.specs.Segments.{count_of, end_of, start_of, seg_from}
use Rattle.outline.specs.Laws.{place_none, place_more}
use Rattle.contour.specs.declared.Written.{Written}
use Rattle.contour.specs.Points.{Points, start_point, points_of, points_to, unchanged_points}
use Rattle.contour.specs.Writing.{over, unless_over, written, extended, writing_in, Wrote}
use Rattle.contour.specs.Laws.{wrote_after}

-- ---- a point after the first n

pub push_fits : (row : Points) (n : ℕ) (b : Bool) (p : List ℤ) → n < length row →
    unless_over b (take (n + 1) (set row n p)) ≡ extended (length row) (unless_over b (take n row)) (p ∷ [])
unfolding written
push_fits row n true p h = refl
push_fits row n false p h =
    let one_more : length (take n row ++ (p ∷ [])) ≡ n + 1 = length-append (take n row) (p ∷ []) ∙ ap (λ (k : ℕ). k + 1) (length-take-le n row (omega arith)) in
    rw (one_more, le-ltb (length row) (n + 1) (omega arith), add-one, take-suc-set row n p h)

pub push_full : (row : Points) (n : ℕ) (b : Bool) (p : List ℤ) → length row ≤ n → over ≡ extended (length row) (unless_over b (take n row)) (p ∷ [])
unfolding written
push_full row n true p h = refl
push_full row n false p h =
    let more : length row < length (row ++ (p ∷ [])) = omega (arith, length-append row (p ∷ [])) in
    rw (take_all n row h, lt-ltb (length row) (length (row ++ (p ∷ []))) more)

-- ---- after k segments, in a row of so many places

pub record Going (xs ys : List ℤ) (fs : List ℕ) (m room : ℕ) (row : Points) (w : Written) (a k : ℕ) : Type 0 where
  pub within : k ≤ m
  pub long : length row ≡ room
  pub place : a ≡ start_of fs k
  pub wrote : Wrote row w (written room (points_to xs ys fs k))

pub going_start : {xs ys : List ℤ} {fs : List ℕ} {m room : ℕ} {row : Points} {w : Written} → length row ≡ room →
    Wrote row w (written room (start_point xs ys ∷ [])) → Going xs ys fs m (length row) row w 0 0
unfolding points_to
going_start {fs = fs} same first = record { within = omega arith; long = refl; place = place_none fs 0; wrote = rw same first }

module _ {xs ys : List ℤ} {fs : List ℕ} {m room : ℕ} {row : Points} {w : Written} {a k : ℕ} (g : Going xs ys fs m room row w a k) where
  pub going_more : {s : Seg} {row' : Points} {w' : Written} {a' : ℕ} → k < m → s ≡ seg_from xs ys fs a → length row' ≡ length row →
      Wrote row' w' (extended (length row) (writing_in row w) (points_of s)) → a' ≡ end_of fs a → Going xs ys fs m room row' w' a' (k + 1)
  unfolding points_to
  going_more {s} h read same then next = record {
    within = omega arith;
    long = same ∙ g.long;
    place = rw (place_more, next, g.place);
    wrote = rw (add-one, ← g.place, ← read) (wrote_after room (points_to xs ys fs k) (points_of s) g.long then g.wrote);
  }

  pub gone : {room₀ : ℕ} → m ≤ k → m ≡ count_of fs → room ≡ room₀ → Wrote row w (written room₀ (unchanged_points xs ys fs))
  gone h all same = rw (← all, le_antisymm h g.within, ← same) g.wrote
