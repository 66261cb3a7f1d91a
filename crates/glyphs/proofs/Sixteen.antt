-- The points of a crunched contour have 16 bits if those of the contour have: coordinates are cut to 16 bits, or are the start's own. Assumes nothing.
use Prim.Native.Nat.{ℕ, zero, suc, ◌+◌, ◌-◌, ◌^◌, ◌<◌}
use native.Mathlib.Omega.{arith}
use mathlib.Core.Bool.{Bool, true, false}
use mathlib.Core.List.{List, [], ◌∷◌, ◌++◌, reverse_aux}
use mathlib.Core.Path.{◌≡◌, refl, subst}
use borrow.Author.Tests.{le-leb}
use lib.IntN.{ℤ, pos, negsuc}
use lib.Ieee.{Float, to_signed}
use lib.Ieee.Casts.{to_signed_in}
use lib.Signed.{mag}
use lib.ListN.{length, get_or, take, drop}
use Rattle.geometry.specs.declared.Quad as Q
use Rattle.geometry.specs.Geometry.{is_line}
use Rattle.outline.specs.Segments.{on_at, count_of, start_of, seg_at}
use Rattle.outline.specs.declared.Seg.{Seg}
use Rattle.outline.specs.declared.Seg.TheVariants.{Line, Quad}
use Rattle.settings.specs.declared.Settings.{Settings}
use Rattle.optimize.specs.declared.Tally.{Tally}
use Rattle.edition.specs.Edition.{Rooms}
use Rattle.contour.specs.Points.{Points, points_of, piece_if, pieces_points, points_to, point_as, came_to, unchanged_in}
use Rattle.contour.specs.Implied.{number, is_implied, implied_at, removed, look, drop_from, first_place, drop_implied, finished}
use Rattle.crunch.specs.Crunch.{crunched, crunch_of}
use Rattle.crunch.proofs.Along.{Begins, Carried, comes_out}
use Rattle.glyf.specs.Layout.{in16, all16}
use Rattle.glyf.proofs.Codes.{and_left, and_right}

-- ---- rows of points

-- both coordinates of each
pub data All16 : Points → Type 0 where
  none : All16 []
  one : {p : List ℤ} {ps : Points} → in16 (number p 0) ≡ true → in16 (number p 1) ≡ true → All16 ps → All16 (p ∷ ps)

pub both : {ps qs : Points} → All16 ps → All16 qs → All16 (ps ++ qs)
both none k = k
both (one x y h) k = one x y (both h k)

taken : (n : ℕ) {ps : Points} → All16 ps → All16 (take n ps)
taken zero none = none
taken zero (one x y h) = none
taken (suc n) none = none
taken (suc n) (one x y h) = one x y (taken n h)

dropped : (n : ℕ) {ps : Points} → All16 ps → All16 (drop n ps)
dropped zero none = none
dropped zero (one x y h) = one x y h
dropped (suc n) none = none
dropped (suc n) (one x y h) = dropped n h

turned : {ps qs : Points} → All16 ps → All16 qs → All16 (reverse_aux ps qs)
turned none k = k
turned (one x y h) k = turned h (one x y k)

module _ (closed : Bool) where
  looked : (k i : ℕ) (b : Bool) {ps : Points} → All16 ps → All16 (look (is_implied closed) k b ps i)
  unfolding look
  looked zero i b h = h
  looked (suc k) i true {ps} h = looked k i (implied_at (is_implied closed) (removed ps i) i) (both (taken i h) (dropped (i + 1) h))
  looked (suc k) i false {ps} h = looked k (i + 1) (implied_at (is_implied closed) ps (i + 1)) h

  drop_16 : {ps : Points} → All16 ps → All16 (drop_implied closed ps)
  unfolding drop_from
  drop_16 {ps} h = looked (length ps - first_place closed) (first_place closed) (implied_at (is_implied closed) ps (first_place closed)) h

finished_16 : (closed : Bool) {ps : Points} → All16 ps → All16 (finished closed ps)
finished_16 true h = drop_16 true h
finished_16 false h = drop_16 false (turned h none)

-- ---- a contour's points

in16_mag : (z : ℤ) → mag z < 2 ^ 15 → in16 z ≡ true
in16_mag (pos n) h = le-leb n 32767 (omega (arith, h))
in16_mag (negsuc n) h = rw (le-leb n 32767 (omega (arith, h))) refl

cut_16 : (x : Float) → in16 (to_signed 15 x) ≡ true
cut_16 x = in16_mag (to_signed 15 x) (to_signed_in 15 x)

seg_16 : (s : Seg) → All16 (points_of s)
seg_16 (Line x0 y0 x1 y1) = one (cut_16 _) (cut_16 _) none
seg_16 (Quad x0 y0 x1 y1 x2 y2) = one (cut_16 _) (cut_16 _) (one (cut_16 _) (cut_16 _) none)

piece_16 : (b : Bool) (q : Q.Quad) → All16 (piece_if b q)
piece_16 true q = one (cut_16 _) (cut_16 _) none
piece_16 false q = one (cut_16 _) (cut_16 _) (one (cut_16 _) (cut_16 _) none)

pieces_16 : (qs : List Q.Quad) → All16 (pieces_points qs)
unfolding pieces_points
pieces_16 [] = none
pieces_16 (q ∷ qs) = both (piece_16 (is_line q) q) (pieces_16 qs)

at_16 : (xs : List ℤ) (i : ℕ) → all16 xs ≡ true → in16 (get_or xs i (pos 0)) ≡ true
unfolding all16
at_16 [] i h = refl
at_16 (x ∷ xs) zero h = and_left (in16 x) (all16 xs) h
at_16 (x ∷ xs) (suc i) h = at_16 xs i (and_right (in16 x) (all16 xs) h)

module _ (xs ys : List ℤ) (fs : List ℕ) (hx : all16 xs ≡ true) (hy : all16 ys ≡ true) where
  place_16 : (on : Bool) (i : ℕ) {ps : Points} → All16 ps → All16 (point_as on xs ys i ∷ ps)
  place_16 on i h = one (at_16 xs i hx) (at_16 ys i hy) h

  to_16 : (k : ℕ) → All16 (points_to xs ys fs k)
  unfolding points_to
  to_16 zero = place_16 true 0 none
  to_16 (suc k) = both (to_16 k) (seg_16 (seg_at xs ys fs k))

  came_16 : (k : ℕ) → All16 (came_to xs ys fs k)
  unfolding came_to
  came_16 zero = none
  came_16 (suc k) = both (came_16 k) (place_16 (on_at fs k) k none)

  itself_16 : (closed : Bool) → All16 (unchanged_in xs ys fs closed)
  itself_16 true = came_16 (length fs)
  itself_16 false = to_16 (count_of fs)

  begins_16 : (closed : Bool) → Begins All16 All16 All16 xs ys fs closed
  begins_16 true = (none, λ a stops ps e h. place_16 true (start_of fs a) (taken (length ps - 1) h))
  begins_16 false = (place_16 true 0 none, λ ps h. h)

  carries_16 : (closed : Bool) → Carried All16 All16 All16 xs ys fs closed
  carries_16 closed = record {
    begins = begins_16 closed;
    segment = λ ps g h. both h (seg_16 g);
    pieces = λ ps qs h. both h (pieces_16 qs);
    unchanged = itself_16 closed;
  }

pub crunched_16 : (rooms : Rooms) (room : ℕ) (settings : Settings) (xs ys : List ℤ) (fs : List ℕ) {ps : Points} {tally : Tally} →
    all16 xs ≡ true → all16 ys ≡ true → crunch_of rooms room settings xs ys fs ≡ crunched ps tally → All16 ps
crunched_16 rooms room settings xs ys fs hx hy e =
    let out = comes_out All16 All16 rooms room settings xs ys fs (λ fine. carries_16 xs ys fs hx hy settings.closed) e in
    subst All16 out.is (finished_16 settings.closed out.holds)
