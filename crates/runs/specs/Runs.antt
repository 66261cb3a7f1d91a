-- The runs of a contour, as a list. Corner k is the k-th marked index, and run k lies between corners k and k + 1; in closed mode the last one goes
-- round from the last corner to the first. A run is its first segment and how many segments it has, going round. Definitions only.
use Rattle.std.specs.Prelude.{ℕ, zero, suc, ◌+◌, ◌-◌, ◌≤◌, Bool, true, false, not, ◌&&◌, List, [], ◌∷◌, ◌++◌, ◌≡◌, eqb, ℤ, length, take, Option, Some, None}
use Rattle.outline.specs.Segments.{count_of, start_of, seg_from, is_quad_of}
use Rattle.corners.specs.Corners.{corners_of}
use Rattle.runs.specs.declared.Run.{Run}

-- ---- corners, in order

-- the marked indices of a row whose places are counted from i
unfoldable pub marks_from : List Bool → ℕ → List ℕ
marks_from [] i = []
marks_from (true ∷ marks) i = i ∷ marks_from marks (i + 1)
marks_from (false ∷ marks) i = marks_from marks (i + 1)

unfoldable pub corner_list : List ℤ → List ℤ → List ℕ → List ℕ
corner_list xs ys fs = marks_from (corners_of xs ys fs 1024) 0

-- ---- runs

-- from each corner to the next
unfoldable pub between : List ℕ → List Run
between [] = []
between (a ∷ []) = []
between (a ∷ b ∷ corners) = record { first = a; count = b - a } ∷ between (b ∷ corners)

-- where the runs begin and end: the corners; and in closed mode the first corner once more, reached going round, so as many segments later as there
-- are. One corner then makes one run all round.
abbrev pub going_round : ℕ → List ℕ → List ℕ
going_round segments [] = []
going_round segments (a ∷ corners) = (a ∷ corners) ++ ((a + segments) ∷ [])

abbrev pub stops_in : Bool → ℕ → List ℕ → List ℕ
stops_in true segments corners = going_round segments corners
stops_in false segments corners = corners

unfoldable pub stops_of : Bool → List ℤ → List ℤ → List ℕ → List ℕ
stops_of closed xs ys fs = stops_in closed (count_of fs) (corner_list xs ys fs)

unfoldable pub runs_of : Bool → List ℤ → List ℤ → List ℕ → List Run
runs_of closed xs ys fs = between (stops_of closed xs ys fs)

-- run k of a list
unfoldable pub run_at : List Run → ℕ → Option Run
run_at [] k = None
run_at (r ∷ rs) zero = Some r
run_at (r ∷ rs) (suc k) = run_at rs k

-- ---- a run of one segment that is a line is copied

-- the run of so many segments from place a on
abbrev pub copied_from : List ℤ → List ℤ → List ℕ → ℕ → ℕ → Bool
copied_from xs ys fs a count = eqb count 1 && not (is_quad_of (seg_from xs ys fs a))

-- and of a run by its first segment
abbrev pub is_copied : List ℤ → List ℤ → List ℕ → Option Run → Bool
is_copied xs ys fs (Some r) = copied_from xs ys fs (start_of fs r.first) r.count
is_copied xs ys fs None = false

-- ---- run k, for the entries that work one run alone: there is none where the contour has no such run, or where it is one copied line: refusal 10

abbrev pub unless_copied : Bool → Option Run → Option Run
unless_copied true r = None
unless_copied false r = r

abbrev pub workable : List ℤ → List ℤ → List ℕ → Option Run → Option Run
workable xs ys fs r = unless_copied (is_copied xs ys fs r) r

unfoldable pub numbered_run : Bool → List ℤ → List ℤ → List ℕ → ℕ → Option Run
numbered_run closed xs ys fs k = workable xs ys fs (run_at (runs_of closed xs ys fs) k)

-- ---- what the code leaves: the first n places of a row are the list

pub record Listed (row : List ℕ) (n : ℕ) (list : List ℕ) : Type 0 where
  pub within : n ≤ length row
  pub are : take n row ≡ list
