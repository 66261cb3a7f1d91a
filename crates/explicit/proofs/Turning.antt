-- The first on-curve point, the points from it round to it, and how they are put in one after the other. Assumes nothing.
use Prim.Native.Nat.{ℕ, zero, suc, ◌+◌, ◌-◌, ◌≤◌, ◌<◌}
use mathlib.Core.Bool.{Bool, true, false, cond, not, ◌&&◌}
use mathlib.Core.List.{List, [], ◌∷◌, ◌++◌, append_assoc, append-nil}
use mathlib.Core.Path.{◌≡◌, refl, sym, ap, ◌∙◌}
use native.Mathlib.Nat.{le_antisymm}
use native.Mathlib.Numerals.{add-one}
use native.Mathlib.Omega.{arith}
use borrow.Author.Tests.{ne_eqb, eqb-true, eqb-false, ltb-true, ltb-false}
use lib.Dec.{eqb, ltb, eqb-suc-suc}
use lib.IntN.{ℤ, pos}
use lib.ListN.{length, get_or, take, drop, length-append, length-take, length-drop, get_or-append}
use lib.Seq.{drop-cons, drop-length, get_or-drop, get_or-take, get_or-append-add, get_or_at}
use Rattle.refusals.specs.Refusals.{is_on}
use Rattle.outline.specs.Segments.{on_at}
use Rattle.rows.specs.Lent.{inputs}
use Rattle.contour.specs.Points.{Points, point_as, came_to}
use Rattle.contour.specs.Writing.{written, extended, writing_in, Wrote}
use Rattle.contour.specs.Laws.{nothing_written, wrote_after}
use Rattle.contour.specs.declared.Written.{Written}
use Rattle.halving.specs.Cubic.{point}
use Rattle.explicit.specs.Explicit.{points_of, first_on, turned, place_from, after, put_in, implied_point, implied_between, itself}
use Rattle.explicit.specs.Entry.{none_on}

-- ---- the first on-curve point: i places are passed, and none of them is on-curve

module _ (fs : List ℕ) (i : ℕ) (so : i + first_on (drop i fs) ≡ first_on fs) where
  pub found : {t : Bool} → i < length fs → t ≡ is_on (get_or fs i 0) → t ≡ true → i ≡ first_on fs
  unfolding first_on
  found h is on = omega (arith, so, here)
    where
      here : first_on (drop i fs) ≡ 0
      here = rw (drop-cons fs i 0 h, ← is, on)

  pub passed : {t : Bool} → i < length fs → t ≡ is_on (get_or fs i 0) → t ≡ false → i + 1 + first_on (drop (i + 1) fs) ≡ first_on fs
  unfolding first_on
  passed h is off = omega (arith, so, here)
    where
      here : first_on (drop i fs) ≡ first_on (drop (i + 1) fs) + 1
      here = rw (drop-cons fs i 0 h, ← is, off, add-one i)

  pub none_found : i ≤ length fs → length fs ≤ i → length fs ≡ first_on fs
  unfolding first_on
  none_found k h = omega (arith, so, here)
    where
      here : first_on (drop i fs) ≡ 0
      here = rw (le_antisymm k h, drop-length fs)

pub first_most : (fs : List ℕ) → first_on fs ≤ length fs
unfolding first_on
first_most [] = omega arith
first_most (f ∷ fs) = by (is_on f) (first_most fs)
  where
    by : (t : Bool) → first_on fs ≤ length fs → cond t 0 (first_on fs + 1) ≤ length (f ∷ fs)
    by true h = omega arith
    by false h = omega arith

-- 21, by the place
pub none_on_lem : (fs : List ℕ) → none_on fs ≡ eqb (first_on fs) (length fs)
unfolding first_on none_on
none_on_lem [] = refl
none_on_lem (f ∷ fs) = by (is_on f) (none_on_lem fs)
  where
    by : (t : Bool) → none_on fs ≡ eqb (first_on fs) (length fs) → (not t && none_on fs) ≡ eqb (cond t 0 (first_on fs + 1)) (suc (length fs))
    by true h = sym (ne_eqb 0 (suc (length fs)) (λ e. omega arith))
    by false h = h ∙ sym (eqb-suc-suc (first_on fs) (length fs)) ∙ rw (add-one (first_on fs))

-- ---- the points, turned

module _ (xs ys : List ℤ) (fs : List ℕ) where
  pub length_came : (k : ℕ) → length (came_to xs ys fs k) ≡ k
  unfolding came_to
  length_came zero = refl
  length_came (suc k) = omega (arith, length-append (came_to xs ys fs k) (point_as (on_at fs k) xs ys k ∷ []), length_came k)

  pub came_at : (k i : ℕ) → i < k → get_or (came_to xs ys fs k) i [] ≡ point_as (on_at fs i) xs ys i
  unfolding came_to
  came_at zero i h = absurd (omega arith)
  came_at (suc k) i h = by (came_at k) (eqb i k) refl
    where
      by : ((j : ℕ) → j < k → get_or (came_to xs ys fs k) j [] ≡ point_as (on_at fs j) xs ys j) → (t : Bool) → eqb i k ≡ t → get_or (came_to xs ys fs k ++ (point_as (on_at fs k) xs ys k ∷ [])) i [] ≡ point_as (on_at fs i) xs ys i
      by before true e = rw (eqb-true i k e) (get_or_at (came_to xs ys fs k) (point_as (on_at fs k) xs ys k) [] [] k (length_came k))
      by before false e =
          let inside : i < k = omega (arith, eqb-false i k e) in
          get_or-append (came_to xs ys fs k) (point_as (on_at fs k) xs ys k ∷ []) [] i (rw (length_came k) inside) ∙ before i inside

  pub length_turned : (start : ℕ) → start ≤ length fs → length (turned start (points_of (inputs xs ys fs))) ≡ length fs
  length_turned start h =
      let ps = came_to xs ys fs (length fs) in
      omega (arith, length-append (drop start ps) (take start ps), length-drop start ps, length-take start ps, length_came (length fs))

  -- place k of the turned points is the place that the code reads
  module _ (start k : ℕ) (h : start ≤ length fs) (l : k < length fs) where
    abbrev place : ℕ
    place = place_from start (length fs) k

    abbrev ps : Points
    ps = came_to xs ys fs (length fs)

    pub turned_at : (place < length fs) × (get_or (turned start ps) k [] ≡ point_as (on_at fs place) xs ys place)
    turned_at = by (ltb k (length fs - start)) refl
      where
        long : length (drop start ps) ≡ length fs - start
        long = length-drop start ps ∙ ap (λ (n : ℕ). n - start) (length_came (length fs))

        by : (t : Bool) → ltb k (length fs - start) ≡ t → (place < length fs) × (get_or (turned start ps) k [] ≡ point_as (on_at fs place) xs ys place)
        by true e =
            let before : k < length fs - start = ltb-true k (length fs - start) e in
            rw e (omega arith, get_or-append (drop start ps) (take start ps) [] k (rw long before) ∙ get_or-drop start ps k [] ∙ came_at (length fs) (start + k) (omega arith))
        by false e =
            let past : length fs - start ≤ k = ltb-false k (length fs - start) e in
            let back : length (drop start ps) + (k - (length fs - start)) ≡ k = omega (arith, long) in
            rw e (
              omega arith,
              ap (λ (n : ℕ). get_or (turned start ps) n []) (sym back) ∙ get_or-append-add (drop start ps) (take start ps) (k - (length fs - start)) []
                  ∙ get_or-take start ps (k - (length fs - start)) [] (omega arith) ∙ came_at (length fs) (k - (length fs - start)) (omega arith),
            )

-- ---- one point after the other

-- k of the points ps are put in, the last of them prev: done is what stands in the row
pub record Putting (ps : Points) (room : ℕ) (row : Points) (w : Written) (prev : List ℤ) (k : ℕ) : Type 0 where
  pub done : Points
  pub within : k ≤ length ps
  pub long : length row ≡ room
  pub wrote : Wrote row w (written room done)
  pub rest : done ++ after implied_point itself prev (drop k ps) ≡ put_in implied_point itself ps

-- before the first stands an on-curve point
pub put_start : (ps row : Points) {w : Written} → w ≡ record { count = 0; over = false } → Putting ps (length row) row w (point (pos 0) (pos 0) (pos 1)) 0
unfolding after put_in
put_start [] row e = record { done = []; within = omega arith; long = refl; wrote = rw e (nothing_written row); rest = refl }
put_start (p ∷ ps) row e = record { done = []; within = omega arith; long = refl; wrote = rw e (nothing_written row); rest = refl }

module _ {ps : Points} {room : ℕ} {row : Points} {w : Written} {prev : List ℤ} {k : ℕ} (g : Putting ps room row w prev k) where
  pub put_more : {p : List ℤ} {row' : Points} {w' : Written} → k < length ps → p ≡ get_or ps k [] → length row' ≡ length row →
      Wrote row' w' (extended (length row) (writing_in row w) (implied_between prev p ++ (p ∷ []))) → Putting ps room row' w' p (k + 1)
  unfolding after
  put_more {p} h read same then = record {
    done = g.done ++ (implied_between prev p ++ (p ∷ []));
    within = omega arith;
    long = same ∙ g.long;
    wrote = wrote_after room g.done (implied_between prev p ++ (p ∷ [])) g.long then g.wrote;
    rest = rw (add-one k, append_assoc, append_assoc) (rw (drop-cons ps k [] h, ← read) at g.rest);
  }

  pub put_end : length ps ≤ k → {room₀ : ℕ} → room ≡ room₀ → Wrote row w (written room₀ (put_in implied_point itself ps))
  unfolding after
  put_end h same =
      let all : g.done ≡ put_in implied_point itself ps = sym (append-nil g.done) ∙ rw (le_antisymm g.within h, drop-length ps) at g.rest in
      rw (← all, ← same) g.wrote
