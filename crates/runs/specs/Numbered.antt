-- Corner k and run k, as types; proofs/Numbered has a proof of each. Definitions and statements only.
use Rattle.std.specs.Prelude.{ℕ, zero, suc, ◌+◌, ◌-◌, ◌≤◌, ◌<◌, Bool, true, false, List, [], ◌∷◌, ◌≡◌, ℤ, length, get_or, Some, None}
use Rattle.outline.specs.Segments.{one_more, count_of}
use Rattle.corners.specs.Corners.{corners_of}
use Rattle.runs.specs.Runs.{corner_list, stops_of, runs_of, run_at, numbered_run}

-- how many indices below i are marked
unfoldable pub marked_below : List Bool → ℕ → ℕ
marked_below [] i = 0
marked_below (b ∷ marks) zero = 0
marked_below (b ∷ marks) (suc i) = one_more b (marked_below marks i)

-- i is the k-th marked index, counted from 0
pub record KthMarked (marks : List Bool) (k i : ℕ) : Type 0 where
  pub marked : get_or marks i false ≡ true
  pub before : marked_below marks i ≡ k

-- corner k is the k-th marked index; and there are as many corners as marked indices
abbrev pub CornerIsMarked : Type 0
CornerIsMarked =
    (xs ys : List ℤ) (fs : List ℕ) (k : ℕ) → k < length (corner_list xs ys fs) → KthMarked (corners_of xs ys fs 1024) k (get_or (corner_list xs ys fs) k 0)

abbrev pub AllMarkedAreCorners : Type 0
AllMarkedAreCorners = (xs ys : List ℤ) (fs : List ℕ) → let marks = corners_of xs ys fs 1024 in length (corner_list xs ys fs) ≡ marked_below marks (length marks)

-- Run k lies between stops k and k + 1: the corners, and in closed mode the first of them once more. There are no others.
abbrev pub RunLiesBetween : Type 0
RunLiesBetween =
    (closed : Bool) (xs ys : List ℤ) (fs : List ℕ) (k : ℕ) →
    let stops = stops_of closed xs ys fs in
    suc k < length stops → run_at (runs_of closed xs ys fs) k ≡ Some (record { first = (get_or stops k 0); count = (get_or stops (suc k) 0 - get_or stops k 0) })

abbrev pub NoRunPast : Type 0
NoRunPast = (closed : Bool) (xs ys : List ℤ) (fs : List ℕ) (k : ℕ) → length (stops_of closed xs ys fs) ≤ suc k → run_at (runs_of closed xs ys fs) k ≡ None

-- A run has a segment at least, and it ends before it has gone round twice.
abbrev pub RunHasSegments : Type 0
RunHasSegments =
    (closed : Bool) (xs ys : List ℤ) (fs : List ℕ) (k first count : ℕ) → numbered_run closed xs ys fs k ≡ Some (record { first = first; count = count }) →
    (0 < count) × (first + count ≤ count_of fs + count_of fs)
