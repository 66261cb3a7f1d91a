-- Rows as points and points as rows: the points of rows have the rows for their columns, and rows that are written are read as the points that
-- they were. Assumes nothing.
use Prim.Native.Nat.{ℕ, zero, suc, ◌%◌, ◌≤◌, ◌<◌}
use mathlib.Core.Bool.{Bool, true, false}
use mathlib.Core.List.{List, [], ◌∷◌, ◌++◌, map, map-append}
use mathlib.Core.Path.{◌≡◌, refl, sym, ap, ◌∙◌}
use native.Mathlib.Nat.{le_refl, le_of_suc-le-suc}
use native.Mathlib.Omega.{arith}
use borrow.Author.Tests.{eqb-true, eqb-false}
use lib.IntN.{ℤ, pos}
use lib.ListN.{length, get_or, take, drop, length-map}
use lib.Seq.{take-suc, take-length}
use Rattle.refusals.specs.Refusals.{is_on, off_neighbours}
use Rattle.outline.specs.Segments.{on_at}
use Rattle.rows.specs.Lent.{inputs}
use Rattle.contour.specs.Points as Points
use Rattle.contour.specs.Points.{Points, point_as, came_to}
use Rattle.contour.specs.Implied.{number}
use Rattle.contour.specs.Output.{column, flag_of, flags}
use Rattle.explicit.specs.Explicit.{turned, both_off, only_if, after, put_in, implied_point, itself, points_of}

-- ---- the points of rows

abbrev pub bits : List ℕ → List ℕ
bits fs = map (λ (f : ℕ). f % 2) fs

flag_bit : (f : ℕ) (xs ys : List ℤ) (i : ℕ) → flag_of (point_as (is_on f) xs ys i) ≡ f % 2
flag_bit f xs ys i = by (is_on f) refl
  where
    by : (t : Bool) → is_on f ≡ t → flag_of (point_as t xs ys i) ≡ f % 2
    by true e = sym (eqb-true (f % 2) 1 e)
    by false e = omega (arith, eqb-false (f % 2) 1 e)

module _ (xs ys : List ℤ) (fs : List ℕ) where
  column_to : (c : ℕ) (row : List ℤ) → ((k : ℕ) → number (point_as (on_at fs k) xs ys k) c ≡ get_or row k (pos 0)) → (k : ℕ) → k ≤ length row →
      column c (came_to xs ys fs k) ≡ take k row
  unfolding came_to
  column_to c row is zero h = refl
  column_to c row is (suc k) h =
      map-append (λ (p : List ℤ). number p c) (came_to xs ys fs k) (point_as (on_at fs k) xs ys k ∷ [])
      ∙ rw (column_to c row is k (omega arith), is k) (sym (take-suc row k (pos 0) h))

  flags_to : (k : ℕ) → k ≤ length fs → flags (came_to xs ys fs k) ≡ bits (take k fs)
  unfolding came_to
  flags_to zero h = refl
  flags_to (suc k) h =
      map-append flag_of (came_to xs ys fs k) (point_as (on_at fs k) xs ys k ∷ [])
      ∙ rw (flags_to k (omega arith), flag_bit (get_or fs k 0) xs ys k, take-suc fs k 0 h)
      (sym (map-append (λ (f : ℕ). f % 2) (take k fs) (get_or fs k 0 ∷ [])))

  -- columns of rows of one length
  pub column_x : length xs ≡ length fs → column 0 (points_of (inputs xs ys fs)) ≡ xs
  column_x e = column_to 0 xs (λ k. refl) (length fs) (omega arith) ∙ rw (← e) (take-length xs)

  pub column_y : length ys ≡ length fs → column 1 (points_of (inputs xs ys fs)) ≡ ys
  column_y e = column_to 1 ys (λ k. refl) (length fs) (omega arith) ∙ rw (← e) (take-length ys)

  pub flag_column : flags (points_of (inputs xs ys fs)) ≡ bits fs
  flag_column = flags_to (length fs) (le_refl (length fs)) ∙ ap bits (take-length fs)

-- a flag's bit is on-curve where the flag is
bit_on : (f : ℕ) → is_on (f % 2) ≡ is_on f
bit_on f = let e : f % 2 % 2 ≡ f % 2 = omega arith in rw e

pub bits_apart : (fs : List ℕ) → off_neighbours (bits fs) ≡ off_neighbours fs
unfolding off_neighbours
bits_apart [] = refl
bits_apart (f ∷ []) = refl
bits_apart (f ∷ g ∷ fs) = rw (bit_on f, bit_on g, bits_apart (g ∷ fs))

-- ---- points of three numbers, the third 1 or 0

pub data Formed : Points → Type 0 where
  none : Formed []
  one : {x y : ℤ} (b : Bool) {ps : Points} → Formed ps → Formed ((x ∷ y ∷ Points.flag_if b ∷ []) ∷ ps)

joined : {ps qs : Points} → Formed ps → Formed qs → Formed (ps ++ qs)
joined none s = s
joined (one b r) s = one b (joined r s)

formed_drop : (n : ℕ) {ps : Points} → Formed ps → Formed (drop n ps)
formed_drop zero r = r
formed_drop (suc n) none = none
formed_drop (suc n) (one b r) = formed_drop n r

formed_take : (n : ℕ) {ps : Points} → Formed ps → Formed (take n ps)
formed_take zero r = none
formed_take (suc n) none = none
formed_take (suc n) (one b r) = one b (formed_take n r)

pub formed_came : (xs ys : List ℤ) (fs : List ℕ) (k : ℕ) → Formed (came_to xs ys fs k)
unfolding came_to
formed_came xs ys fs zero = none
formed_came xs ys fs (suc k) = joined (formed_came xs ys fs k) (one (on_at fs k) none)

formed_after : (p : List ℤ) {ps : Points} → Formed ps → Formed (after implied_point itself p ps)
unfolding after
formed_after p none = none
formed_after p (one {x = x} {y = y} b r) = by (both_off p q) (one b (formed_after q r))
  where
    q : List ℤ
    q = x ∷ y ∷ Points.flag_if b ∷ []

    by : (t : Bool) {qs : Points} → Formed qs → Formed (only_if t (implied_point p q) ++ qs)
    by true s = one true s
    by false s = s

pub formed_written : (start : ℕ) (ps : Points) → Formed ps → Formed (put_in implied_point itself (turned start ps))
unfolding put_in
formed_written start ps r = by (joined (formed_drop start r) (formed_take start r))
  where
    by : {qs : Points} → Formed qs → Formed (put_in implied_point itself qs)
    by none = none
    by (one b r) = one b (formed_after _ r)

-- such a point is made of its numbers
formed_at : {ps : Points} → Formed ps → (k : ℕ) → k < length ps → point_as (on_at (flags ps) k) (column 0 ps) (column 1 ps) k ≡ get_or ps k []
formed_at none k h = absurd (omega arith)
formed_at (one true r) zero h = refl
formed_at (one false r) zero h = refl
formed_at (one b r) (suc k) h = formed_at r k (le_of_suc-le-suc h)

formed_to : {ps : Points} → Formed ps → (k : ℕ) → k ≤ length ps → came_to (column 0 ps) (column 1 ps) (flags ps) k ≡ take k ps
unfolding came_to
formed_to r zero h = refl
formed_to {ps} r (suc k) h = rw (formed_to r k (omega arith), formed_at r k h) (sym (take-suc ps k [] h))

pub read_again_lem : {ps : Points} → Formed ps → points_of (inputs (column 0 ps) (column 1 ps) (flags ps)) ≡ ps
read_again_lem {ps} r = rw (length-map ps flag_of) (formed_to r (length ps) (le_refl (length ps)) ∙ take-length ps)
