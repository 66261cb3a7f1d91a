-- What a reader should know of corners, as types; a theorem of proofs/ is of each: `corner_when` and `no_corner_past` of Reasons, `bend_test_exact`
-- of Whole. Statements only.
use Rattle.std.specs.Prelude.{ℕ, ◌^◌, ◌≤◌, ◌<◌, Bool, false, ◌||◌, List, ◌≡◌, ℤ, pos, ◌+ℤ◌, ◌-ℤ◌, ◌*ℤ◌, length, get_or, Float}
use Rattle.std.specs.Float.{binary64}
use Rattle.std.specs.Float.Ieee.{mul, div, lt, of_int}
use Rattle.float.specs.Numbers.{fiftieth}
use Rattle.float.specs.Float.{abs_of, root_of}
use Rattle.float.specs.Dyadic.{Exact}
use Rattle.geometry.specs.declared.Point.{Point}
use Rattle.geometry.specs.Geometry.{norm_of}
use Rattle.rows.specs.Sixteen.{SixteenBits}
use Rattle.outline.specs.Segments.{on_at, count_of, next_of, end_if, end_of, start_of, seg_at, leaving_of, arriving_of, origin, previous}
use Rattle.corners.specs.Corners.{bend, zero_before, zero_after, turn_at, tangent_at, after_first, corners_of}

-- In a row of n places an index is marked exactly when one of its tests holds: a sign turn in x or in y, in the first or in the second round; a zero
-- tangent before or after, or an angle. An index past the segments is none.
abbrev pub CornerWhenTested : Type 0
CornerWhenTested =
    (xs ys : List ℤ) (fs : List ℕ) (n k : ℕ) → k < count_of fs → k < n →
    get_or (corners_of xs ys fs n) k false ≡ (turn_at xs ys fs origin k || turn_at xs ys fs (after_first xs ys fs) k || tangent_at xs ys fs (count_of fs) k)

abbrev pub NoCornerPastSegments : Type 0
NoCornerPastSegments = (xs ys : List ℤ) (fs : List ℕ) (n k : ℕ) → count_of fs ≤ k → get_or (corners_of xs ys fs n) k false ≡ false

-- ---- the root of the bend test

module _ (xs ys : List ℤ) where
  -- the whole sum of squares, for the step from the point at place i to that at place j
  abbrev pub whole_sum : ℕ → ℕ → ℤ
  whole_sum i j =
      let dx = get_or xs j (pos 0) -ℤ get_or xs i (pos 0) in
      let dy = get_or ys j (pos 0) -ℤ get_or ys i (pos 0) in
      dx *ℤ dx +ℤ dy *ℤ dy

  -- its root, rounded once
  abbrev pub exact_hypot : ℕ → ℕ → Float
  exact_hypot i j = root_of (of_int binary64 (whole_sum i j))

  -- A segment from place a leaves by the step to the next place. It arrives by the step to its end, from its control where it has one.
  abbrev pub leaving_hypot : List ℕ → ℕ → Float
  leaving_hypot fs a = exact_hypot a (next_of a (length fs))

  abbrev pub arriving_hypot : List ℕ → ℕ → Float
  arriving_hypot fs a = let b = next_of a (length fs) in exact_hypot (end_if (on_at fs b) a b) (end_of fs a)

-- |bend / (h0 * h1)| > 0.02
abbrev pub angle_by : Float → Float → Point → Point → Bool
angle_by h0 h1 d0 d1 = lt fiftieth (abs_of (div binary64 (bend d0 d1) (mul binary64 h0 h1)))

-- The whole sum is exact as a float: it is at most 2 ^ 33, and `of_int` rounds nothing. The lengths of the tangents of every segment, counted on going
-- round, are its roots; so the tests of the tangents are those with exact lengths.
pub record ByExactHypot (xs ys : List ℤ) (fs : List ℕ) : Type 0 where
  pub whole : (i j : ℕ) → Exact (of_int binary64 (whole_sum xs ys i j)) (whole_sum xs ys i j) 0 (2 ^ 33)
  pub leaving : (k : ℕ) → norm_of (leaving_of (seg_at xs ys fs k)) ≡ leaving_hypot xs ys fs (start_of fs k)
  pub arriving : (k : ℕ) → norm_of (arriving_of (seg_at xs ys fs k)) ≡ arriving_hypot xs ys fs (start_of fs k)
  pub test :
      (m k : ℕ) →
      let d0 = arriving_of (seg_at xs ys fs (previous m k)) in
      let d1 = leaving_of (seg_at xs ys fs k) in
      let h0 = arriving_hypot xs ys fs (start_of fs (previous m k)) in
      let h1 = leaving_hypot xs ys fs (start_of fs k) in
      tangent_at xs ys fs m k ≡ (zero_before d0 d1 || (zero_after d0 d1 || angle_by h0 h1 d0 d1))

-- of every contour of 16-bit points
abbrev pub BendTestIsExact : Type 0
BendTestIsExact = (xs ys : List ℤ) (fs : List ℕ) → SixteenBits xs → SixteenBits ys → ByExactHypot xs ys fs
