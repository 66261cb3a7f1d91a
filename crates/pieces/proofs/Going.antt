-- The loops over the stored answers of a chain, from place `start` of a row of their numbers on: to the rows of a chain, and to points. Assumes nothing.
use Prim.Native.Nat.{ℕ, ◌+◌, ◌-◌, ◌≤◌, ◌<◌}
use native.Mathlib.Numerals.{add-one}
use native.Mathlib.Omega.{arith}
use mathlib.Core.Bool.{Bool, true, false}
use mathlib.Core.List.{List, [], ◌++◌, map, append-nil}
use mathlib.Core.Path.{◌≡◌, refl, sym, ap, ◌∙◌}
use borrow.Author.Tests.{le-ltb}
use lib.Ieee.{Float}
use lib.ListN.{length, get_or, take, drop, set, length-map, length-drop, length-take, drop_of_length-le, get_or-map}
use lib.Seq.{drop-cons, get_or-drop, take-length}
use Rattle.geometry.specs.declared.Quad.{Quad}
use Rattle.rows.proofs.Filled.{Filled, start, more, filled}
use Rattle.contour.specs.declared.Written.{Written}
use Rattle.contour.specs.Points.{Points, piece_points, pieces_points}
use Rattle.contour.specs.Output.{front}
use Rattle.contour.specs.Writing.{unless_over, written, extended, writing_in, Wrote}
use Rattle.contour.specs.Laws.{extended_more}
use Rattle.chain.specs.declared.Piece.{Piece}
use Rattle.pieces.specs.Slots.{chain, chained, Each}
use Rattle.pieces.proofs.Slots.{each_at}

-- what holds of each from a place on holds of any of them
pub from_on : {P : ℕ → Type 0} (slots : List ℕ) (at i : ℕ) → Each P (drop at slots) → at ≤ i → i < length slots → P (get_or slots i 0)
from_on {P} slots at i e h k =
    let there : at + (i - at) ≡ i = omega arith in
    let inside : i - at < length (drop at slots) = rw length-drop (omega arith) in
    rw (get_or-drop at slots (i - at) 0, there) at (each_at e 0 (i - at) inside)

-- ---- to the rows of a chain

-- one number of each piece
abbrev column_of : {B : Type 0} → (Piece → B) → (ℕ → Piece) → List ℕ → ℕ → List B
column_of h g slots at = map h (map g (drop at slots))

module _ {B : Type 0} (h : Piece → B) (g : ℕ → Piece) (slots : List ℕ) (at : ℕ) where
  size : length (column_of h g slots at) ≡ length slots - at
  size = length-map (map g (drop at slots)) h ∙ length-map (drop at slots) g ∙ length-drop at slots

  put_one : {l m : List B} {i : ℕ} {v : B} → Filled (column_of h g slots at) l m (i - at) → at ≤ i → i < length slots → length slots - at ≤ length l → v ≡ h (g (get_or slots i 0)) →
      Filled (column_of h g slots at) l (set m (i - at) v) (i + 1 - at)
  put_one {l} {m} {i} {v} f from inside room e =
      let next : i + 1 - at ≡ i - at + 1 = omega arith in
      let there : at + (i - at) ≡ i = omega arith in
      let here : get_or (drop at slots) (i - at) 0 ≡ get_or slots i 0 = get_or-drop at slots (i - at) 0 ∙ ap (λ (n : ℕ). get_or slots n 0) there in
      rw next (more (h (g 0)) v f (omega (arith, f.same)) (rw size (omega arith))
      (e ∙ sym (get_or-map h (map g (drop at slots)) (i - at) (g 0) ∙ ap h (get_or-map g (drop at slots) (i - at) 0 ∙ ap g here))))

  put_all : {l m : List B} {i : ℕ} → Filled (column_of h g slots at) l m (i - at) → length slots ≤ i → m ≡ front (column_of h g slots at) l
  put_all {l} {m} {i} f past =
      let all : i - at ≡ length (column_of h g slots at) = omega (arith, f.given, size) in
      filled (length (column_of h g slots at)) f all ∙ ap (λ (s : List B). s ++ drop (length (column_of h g slots at)) l) (take-length (column_of h g slots at))

module _ (g : ℕ → Piece) (slots : List ℕ) (at : ℕ) where
  -- after the pieces before place i
  pub record Putting (starts₀ ends₀ : List ℕ) (xs₀ ys₀ : List Float) (starts ends : List ℕ) (xs ys : List Float) (i : ℕ) : Type 0 where
    pub from : at ≤ i
    pub starts_are : Filled (column_of (λ (p : Piece). p.from) g slots at) starts₀ starts (i - at)
    pub ends_are : Filled (column_of (λ (p : Piece). p.to) g slots at) ends₀ ends (i - at)
    pub xs_are : Filled (column_of (λ (p : Piece). p.control.x) g slots at) xs₀ xs (i - at)
    pub ys_are : Filled (column_of (λ (p : Piece). p.control.y) g slots at) ys₀ ys (i - at)

  pub put_start : (starts ends : List ℕ) (xs ys : List Float) → Putting starts ends xs ys starts ends xs ys at
  put_start starts ends xs ys =
      let none : at - at ≡ 0 = omega arith in
      record {
        from = omega arith;
        starts_are = rw none (start _ starts);
        ends_are = rw none (start _ ends);
        xs_are = rw none (start _ xs);
        ys_are = rw none (start _ ys);
      }

  module _ {starts₀ ends₀ : List ℕ} {xs₀ ys₀ : List Float} {starts ends : List ℕ} {xs ys : List Float} {i : ℕ} (r : Putting starts₀ ends₀ xs₀ ys₀ starts ends xs ys i) where
    pub put_room : i < length slots →
        (length slots - at ≤ length starts₀) × (length slots - at ≤ length ends₀) × (length slots - at ≤ length xs₀) × (length slots - at ≤ length ys₀) →
        (i - at < length starts) × (i - at < length ends) × (i - at < length xs) × (i - at < length ys)
    put_room inside room = (
      omega (arith, r.from, r.starts_are.same),
      omega (arith, r.from, r.ends_are.same),
      omega (arith, r.from, r.xs_are.same),
      omega (arith, r.from, r.ys_are.same),
    )

    pub put_more : {p : Piece} → i < length slots → p ≡ g (get_or slots i 0) →
        (length slots - at ≤ length starts₀) × (length slots - at ≤ length ends₀) × (length slots - at ≤ length xs₀) × (length slots - at ≤ length ys₀) →
        Putting starts₀ ends₀ xs₀ ys₀ (set starts (i - at) p.from) (set ends (i - at) p.to) (set xs (i - at) p.control.x) (set ys (i - at) p.control.y) (i + 1)
    put_more {p} inside e room = record {
      from = omega (arith, r.from);
      starts_are = put_one (λ (q : Piece). q.from) g slots at r.starts_are r.from inside room.0 (ap (λ (q : Piece). q.from) e);
      ends_are = put_one (λ (q : Piece). q.to) g slots at r.ends_are r.from inside room.1 (ap (λ (q : Piece). q.to) e);
      xs_are = put_one (λ (q : Piece). q.control.x) g slots at r.xs_are r.from inside room.2 (ap (λ (q : Piece). q.control.x) e);
      ys_are = put_one (λ (q : Piece). q.control.y) g slots at r.ys_are r.from inside room.3 (ap (λ (q : Piece). q.control.y) e);
    }

    pub put_done : length slots ≤ i → chain starts ends xs ys ≡ chained (map g (drop at slots)) (chain starts₀ ends₀ xs₀ ys₀)
    put_done past =
        let s = put_all (λ (q : Piece). q.from) g slots at r.starts_are past in
        let e = put_all (λ (q : Piece). q.to) g slots at r.ends_are past in
        let x = put_all (λ (q : Piece). q.control.x) g slots at r.xs_are past in
        let y = put_all (λ (q : Piece). q.control.y) g slots at r.ys_are past in
        cc

-- ---- to points

extended_none : (row : Points) (w : Written) → extended (length row) (writing_in row w) [] ≡ writing_in row w
unfolding written
extended_none row w = by w.over
  where
    by : (b : Bool) → extended (length row) (unless_over b (take w.count row)) [] ≡ unless_over b (take w.count row)
    by true = refl
    by false = rw (append-nil (take w.count row), le-ltb (length row) (length (take w.count row)) (rw length-take (omega arith))) refl

module _ (q : ℕ → Quad) (slots : List ℕ) (at : ℕ) where
  -- the points of the stored answers from place i on
  abbrev points_from : ℕ → Points
  points_from i = pieces_points (map q (drop i slots))

  -- after the pieces before place i, the points of the others would end it all
  pub record Pushing (row₀ : Points) (w : Written) (row : Points) (v : Written) (i : ℕ) : Type 0 where
    pub from : at ≤ i
    pub long : length row ≡ length row₀
    pub within : at < i → v.count ≤ length row
    pub all : extended (length row₀) (writing_in row v) (points_from i) ≡ extended (length row₀) (writing_in row₀ w) (points_from at)

  pub push_start : (row : Points) (w : Written) → Pushing row w row w at
  push_start row w = record { from = omega arith; long = refl; within = λ h. absurd (omega arith); all = refl }

  one_more : (i : ℕ) → i < length slots → points_from i ≡ piece_points (q (get_or slots i 0)) ++ points_from (i + 1)
  unfolding pieces_points
  one_more i h = rw (add-one i, drop-cons slots i 0 h) refl

  no_more : (i : ℕ) → length slots ≤ i → points_from i ≡ []
  unfolding pieces_points
  no_more i h = rw (drop_of_length-le slots h) refl

  module _ {row₀ : Points} {w : Written} {row : Points} {v : Written} {i : ℕ} (r : Pushing row₀ w row v i) where
    pub push_more : {a : Quad} {row' : Points} {v' : Written} → i < length slots → a ≡ q (get_or slots i 0) → length row' ≡ length row →
        Wrote row' v' (extended (length row) (writing_in row v) (piece_points a)) → Pushing row₀ w row' v' (i + 1)
    push_more {a} {row'} {v'} h e same then = record {
      from = omega (arith, r.from);
      long = same ∙ r.long;
      within = λ k. then.within;
      all = rw (then.is, r.long, e)
          (extended_more (length row₀) (writing_in row v) (piece_points (q (get_or slots i 0))) (points_from (i + 1)) ∙ rw (one_more i h) at r.all);
    }

    pub push_done : at < length slots → length slots ≤ i → Wrote row v (extended (length row₀) (writing_in row₀ w) (points_from at))
    push_done some past = record {
      within = r.within (omega arith);
      is = sym (extended_none row v) ∙ ap (λ (n : ℕ). extended n (writing_in row v) []) r.long ∙ rw (no_more i past) at r.all;
    }
