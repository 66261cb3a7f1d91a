-- A contour that stays unchanged is written as its own points: to a float and back to 16 bits changes no coordinate, and the segments that are read
-- are those of its points, one after the other. Theorems on the definitions, for a reader: no proof of a function uses them. Assumes nothing.
use Prim.Native.Nat.{ℕ, zero, suc, ◌+◌, ◌^◌, ◌≤◌, ◌<◌}
use mathlib.Core.Bool.{Bool, true, false}
use mathlib.Core.List.{List, [], ◌∷◌, ◌++◌, append_assoc, append-nil, reverse-append}
use mathlib.Core.Path.{◌≡◌, refl, sym, ap, ◌∙◌}
use native.Mathlib.Omega.{arith}
use lib.Dec.{T, le→leb}
use lib.IntN.{ℤ, pos, negsuc}
use lib.ListN.{length, drop, drop_of_length-le}
use lib.Seq.{drop-cons}
use lib.Signed.{mag}
use lib.Ieee.{binary64, of_int, to_signed, in_float}
use lib.Ieee.Back.{positive_back, negative_back}
use Rattle.refusals.specs.Refusals.{is_on, off_neighbours}
use Rattle.refusals.specs.Accepted.{Accepted, accepted, next_on}
use Rattle.outline.specs.declared.Seg.{Seg}
use Rattle.outline.specs.Segments.{on_at, count_of, end_of, place_after, seg_from}
use Rattle.outline.specs.OpenType.{points, outline_from, outline}
use Rattle.rows.specs.Sixteen.{SixteenBits}
use Rattle.outline.proofs.Outline.{segments, outline_is}
use Rattle.contour.specs.Points.{Points, flag_if, point_as, start_point, points_of, points_to, came_to, unchanged_in}
use Rattle.contour.specs.Implied.{same, finished}
use Rattle.contour.specs.Unchanged.{as_uploaded, without_implied, UnchangedInCratesMode, UnchangedInClosedMode, one_or_zero, UploadedHasItsRows}

-- ---- a coordinate of 16 bits comes back from a float

exact : (z : ℤ) → mag z < 2 ^ 15 → T (in_float binary64 z)
unfolding in_float
exact (pos n) h = le→leb n (2 ^ 53) (omega arith)
exact (negsuc n) h = le→leb (suc n) (2 ^ 53) (omega arith)

back : (z : ℤ) → mag z < 2 ^ 15 → to_signed 15 (of_int binary64 z) ≡ z
back (pos n) h = (positive_back binary64 15 n (exact (pos n) h) h).1
back (negsuc n) h = (negative_back binary64 15 n (exact (negsuc n) h) h).1

-- a point of two such coordinates
record Small (a b : ℤ) : Type 0 where
  x : mag a < 2 ^ 15
  y : mag b < 2 ^ 15

abbrev came : ℤ → ℤ → ℕ → List ℤ
came x y f = x ∷ y ∷ pos f ∷ []

written_as : (x y : ℤ) (f : ℕ) → Small x y → to_signed 15 (of_int binary64 x) ∷ to_signed 15 (of_int binary64 y) ∷ pos f ∷ [] ≡ came x y f
written_as x y f s = rw (back x s.x, back y s.y)

head_small : (x y : ℤ) (xs ys : List ℤ) → SixteenBits (x ∷ xs) → SixteenBits (y ∷ ys) → Small x y
head_small x y xs ys sx sy = record { x = sx 0 (omega arith); y = sy 0 (omega arith) }

tail_small : (x : ℤ) (xs : List ℤ) → SixteenBits (x ∷ xs) → SixteenBits xs
tail_small x xs s i h = s (suc i) (omega arith)

-- after an off-curve point comes an on-curve one
abbrev Apart : List ℕ → Type 0
Apart fs = (i : ℕ) → suc i < length fs → on_at fs i ≡ false → on_at fs (suc i) ≡ true

tail_apart : (f : ℕ) (fs : List ℕ) → Apart (f ∷ fs) → Apart fs
tail_apart f fs a i h = a (suc i) (omega arith)

-- ---- the points of an outline's segments are the outline's points

unfoldable all : List Seg → Points
all [] = []
all (g ∷ gs) = points_of g ++ all gs

-- from the point (x, y) on, back to the start (x0, y0)
module _ (x0 y0 : ℤ) (start : Small x0 y0) where
  abbrev Traces : List ℤ → List ℤ → List ℕ → Type 0
  Traces xs ys fs = (x y : ℤ) → all (outline_from x0 y0 x y (points xs ys fs)) ≡ as_uploaded xs ys fs ++ (came x0 y0 1 ∷ [])

  none : (ys : List ℤ) (fs : List ℕ) → Traces [] ys fs
  unfolding all outline_from points as_uploaded
  none ys fs x y = ap (λ (p : List ℤ). p ∷ []) (written_as x0 y0 1 start)

  module _ (u v : ℤ) (f : ℕ) (here : Small u v) where
    on_next : (xs ys : List ℤ) (fs : List ℕ) → is_on f ≡ true → Traces xs ys fs → Traces (u ∷ xs) (v ∷ ys) (f ∷ fs)
    unfolding all outline_from points as_uploaded
    on_next xs ys fs on later x y = rw (on, written_as u v 1 here) (ap (λ (ps : Points). came u v 1 ∷ ps) (later u v))

    off_last : is_on f ≡ false → Traces (u ∷ []) (v ∷ []) (f ∷ [])
    unfolding all outline_from points as_uploaded
    off_last off x y = rw (off, written_as u v 0 here, written_as x0 y0 1 start)

    off_next : (s t : ℤ) (g : ℕ) (xs ys : List ℤ) (fs : List ℕ) → Small s t → is_on f ≡ false → is_on g ≡ true → Traces xs ys fs →
        Traces (u ∷ s ∷ xs) (v ∷ t ∷ ys) (f ∷ g ∷ fs)
    unfolding all outline_from points as_uploaded
    off_next s t g xs ys fs next off on later x y =
        rw (off, on, written_as u v 0 here, written_as s t 1 next) (ap (λ (ps : Points). came u v 0 ∷ came s t 1 ∷ ps) (later s t))

    -- by the flag of the next point, where there is another after it, and where it is the last
    by_flag : (b : Bool) (s t : ℤ) (g : ℕ) (xs ys : List ℤ) (fs : List ℕ) → is_on f ≡ b → Small s t → (is_on f ≡ false → is_on g ≡ true) →
        Traces (s ∷ xs) (t ∷ ys) (g ∷ fs) → Traces xs ys fs → Traces (u ∷ s ∷ xs) (v ∷ t ∷ ys) (f ∷ g ∷ fs)
    by_flag true s t g xs ys fs on next apart one two = on_next (s ∷ xs) (t ∷ ys) (g ∷ fs) on one
    by_flag false s t g xs ys fs off next apart one two = off_next s t g xs ys fs next off (apart off) two

    last_by_flag : (b : Bool) → is_on f ≡ b → Traces (u ∷ []) (v ∷ []) (f ∷ [])
    last_by_flag true on = on_next [] [] [] on (none [] [])
    last_by_flag false off = off_last off

  traces : (xs ys : List ℤ) (fs : List ℕ) → length xs ≡ length fs → length ys ≡ length fs → SixteenBits xs → SixteenBits ys → Apart fs → Traces xs ys fs
  traces [] ys fs ex ey sx sy a = none ys fs
  traces (u ∷ xs) [] [] ex ey sx sy a = absurd (omega arith)
  traces (u ∷ xs) [] (f ∷ fs) ex ey sx sy a = absurd (omega arith)
  traces (u ∷ xs) (v ∷ ys) [] ex ey sx sy a = absurd (omega arith)
  traces (u ∷ []) (v ∷ []) (f ∷ []) ex ey sx sy a = last_by_flag u v f (head_small u v [] [] sx sy) (is_on f) refl
  traces (u ∷ []) (v ∷ t ∷ ys) (f ∷ []) ex ey sx sy a = absurd (omega arith)
  traces (u ∷ []) (v ∷ ys) (f ∷ g ∷ fs) ex ey sx sy a = absurd (omega arith)
  traces (u ∷ s ∷ xs) (v ∷ ys) (f ∷ []) ex ey sx sy a = absurd (omega arith)
  traces (u ∷ s ∷ xs) (v ∷ []) (f ∷ g ∷ fs) ex ey sx sy a = absurd (omega arith)
  traces (u ∷ s ∷ xs) (v ∷ t ∷ ys) (f ∷ g ∷ fs) ex ey sx sy a =
      let sx' = tail_small u (s ∷ xs) sx in
      let sy' = tail_small v (t ∷ ys) sy in
      let a' = tail_apart f (g ∷ fs) a in
      by_flag u v f (head_small u v (s ∷ xs) (t ∷ ys) sx sy) (is_on f) s t g xs ys fs refl (head_small s t xs ys sx' sy') (a 0 (omega arith))
      (traces (s ∷ xs) (t ∷ ys) (g ∷ fs) (omega arith) (omega arith) sx' sy' a')
      (traces xs ys fs (omega arith) (omega arith) (tail_small s xs sx') (tail_small t ys sy') (tail_apart g fs a'))

-- ---- the crate's mode: the points of the segments that are read, one after the other

module _ (xs ys : List ℤ) (fs : List ℕ) where
  -- after the first j segments those of one more, and of m more
  one_on : (m j : ℕ) → points_to xs ys fs j ++ all (segments xs ys fs (place_after fs 0 j) (suc m)) ≡ points_to xs ys fs (suc j) ++ all (segments xs ys fs (place_after fs 0 (suc j)) m)
  unfolding all segments points_to place_after
  one_on m j =
      sym (append_assoc (points_to xs ys fs j) (points_of (seg_from xs ys fs (place_after fs 0 j))) (all (segments xs ys fs (end_of fs (place_after fs 0 j)) m)))

  points_on : (m j : ℕ) → points_to xs ys fs j ++ all (segments xs ys fs (place_after fs 0 j) m) ≡ points_to xs ys fs (j + m)
  unfolding all segments
  points_on zero j = append-nil (points_to xs ys fs j) ∙ ap (points_to xs ys fs) (let z : j ≡ j + 0 = omega arith in z)
  points_on (suc m) j = let next : suc j + m ≡ j + suc m = omega arith in one_on m j ∙ points_on m (suc j) ∙ ap (points_to xs ys fs) next

  from_start : points_to xs ys fs (count_of fs) ≡ start_point xs ys ∷ all (segments xs ys fs 0 (count_of fs))
  unfolding points_to place_after
  from_start = let all_of : 0 + count_of fs ≡ count_of fs = omega arith in sym (points_on (count_of fs) 0 ∙ ap (points_to xs ys fs) all_of)

apart_of : (fs : List ℕ) → off_neighbours fs ≡ false → Apart fs
apart_of fs h i = next_on fs i h

whole_outline : (x y : ℤ) (f : ℕ) (xs ys : List ℤ) (fs : List ℕ) → SixteenBits (x ∷ xs) → SixteenBits (y ∷ ys) → Accepted (x ∷ xs) (y ∷ ys) (f ∷ fs) →
    came x y 1 ∷ all (outline (points (x ∷ xs) (y ∷ ys) (f ∷ fs))) ≡ as_uploaded (x ∷ xs) (y ∷ ys) (f ∷ fs) ++ (came x y 1 ∷ [])
unfolding outline points as_uploaded
whole_outline x y f xs ys fs sx sy ok =
    rw ok.first
    (ap (λ (ps : Points). came x y 1 ∷ ps)
    (traces x y (head_small x y xs ys sx sy) xs ys fs (omega (arith, ok.same_x)) (omega (arith, ok.same_y))
    (tail_small x xs sx) (tail_small y ys sy) (tail_apart f fs (apart_of (f ∷ fs) ok.apart)) x y))

crates_row : (xs ys : List ℤ) (fs : List ℕ) → SixteenBits xs → SixteenBits ys → Accepted xs ys fs →
    unchanged_in xs ys fs false ≡ as_uploaded xs ys fs ++ (start_point xs ys ∷ [])
crates_row xs ys [] sx sy ok = absurd (omega (arith, ok.some))
crates_row [] ys (f ∷ fs) sx sy ok = absurd (omega (arith, ok.same_x))
crates_row (x ∷ xs) [] (f ∷ fs) sx sy ok = absurd (omega (arith, ok.same_y))
crates_row (x ∷ xs) (y ∷ ys) (f ∷ fs) sx sy ok =
    from_start (x ∷ xs) (y ∷ ys) (f ∷ fs)
    ∙ ap (λ (gs : List Seg). came x y 1 ∷ all gs) (sym (outline_is (x ∷ xs) (y ∷ ys) (f ∷ fs) ok))
    ∙ whole_outline x y f xs ys fs sx sy ok

pub in_crates_mode : UnchangedInCratesMode
in_crates_mode xs ys fs sx sy h =
    let is = crates_row xs ys fs sx sy (accepted xs ys fs h) in
    record {
      row = is;
      goes_out = ap (finished false) is ∙ ap (without_implied false) (reverse-append (as_uploaded xs ys fs) (start_point xs ys ∷ []));
    }

-- ---- closed mode: the points one after the other

module _ (xs ys : List ℤ) (fs : List ℕ) (ok : Accepted xs ys fs) where
  abbrev left : ℕ → Points
  left j = as_uploaded (drop j xs) (drop j ys) (drop j fs)

  left_more : (j : ℕ) → j < length fs → left j ≡ point_as (on_at fs j) xs ys j ∷ left (suc j)
  unfolding as_uploaded
  left_more j h =
      let hx : j < length xs = omega (arith, ok.same_x) in
      let hy : j < length ys = omega (arith, ok.same_y) in
      rw (drop-cons xs j (pos 0), drop-cons ys j (pos 0), drop-cons fs j 0)

  none_left : left (length fs) ≡ []
  unfolding as_uploaded
  none_left = let hx : length xs ≤ length fs = omega (arith, ok.same_x) in rw (drop_of_length-le xs hx)

  -- the first j and those after them
  came_on : (j : ℕ) → j ≤ length fs → came_to xs ys fs j ++ left j ≡ as_uploaded xs ys fs
  unfolding came_to
  came_on zero h = refl
  came_on (suc j) h =
      append_assoc (came_to xs ys fs j) (point_as (on_at fs j) xs ys j ∷ []) (left (suc j))
      ∙ ap (λ (ps : Points). came_to xs ys fs j ++ ps) (sym (left_more j (omega arith)))
      ∙ came_on j (omega arith)

  closed_row_lem : unchanged_in xs ys fs true ≡ as_uploaded xs ys fs
  closed_row_lem =
      sym (append-nil (came_to xs ys fs (length fs)))
      ∙ ap (λ (ps : Points). came_to xs ys fs (length fs) ++ ps) (sym none_left)
      ∙ came_on (length fs) (omega arith)

pub in_closed_mode_lem : UnchangedInClosedMode
in_closed_mode_lem xs ys fs h =
    let is = closed_row_lem xs ys fs (accepted xs ys fs h) in
    record { row = is; goes_out = ap (finished true) is }

-- ---- the rows of the upload

flag_is : (b : Bool) → Rattle.contour.specs.Output.flag_if (same (flag_if b) (pos 0)) ≡ one_or_zero b
flag_is true = refl
flag_is false = refl

pub its_rows : UploadedHasItsRows
unfolding as_uploaded
its_rows [] [] [] ex ey = record { x = refl; y = refl; flag = refl }
its_rows [] [] (f ∷ fs) ex ey = absurd (omega arith)
its_rows [] (y ∷ ys) [] ex ey = absurd (omega arith)
its_rows [] (y ∷ ys) (f ∷ fs) ex ey = absurd (omega arith)
its_rows (x ∷ xs) ys [] ex ey = absurd (omega arith)
its_rows (x ∷ xs) [] (f ∷ fs) ex ey = absurd (omega arith)
its_rows (x ∷ xs) (y ∷ ys) (f ∷ fs) ex ey =
    let later = its_rows xs ys fs (omega arith) (omega arith) in
    record { x = ap (◌∷◌ x) later.x; y = ap (◌∷◌ y) later.y; flag = rw (flag_is (is_on f)) (ap (◌∷◌ (one_or_zero (is_on f))) later.flag) }
