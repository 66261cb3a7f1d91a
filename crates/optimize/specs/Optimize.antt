-- Module 8, the Rust's `optimize`: pairs of breaks are tried, in three phases, and the answer at the last break is the result. The measure is
-- an argument: a function of two breaks and a quad. Definitions only.
use Rattle.std.specs.Prelude.{ℕ, zero, suc, ◌+◌, ◌-◌, Bool, true, false, List, [], ◌∷◌, ◌++◌, length, get_or, set, replicate, Float, Option, Some, None}
use Rattle.std.specs.Float.{binary64}
use Rattle.std.specs.Float.Ieee.{mul, lt}
use Rattle.float.specs.Numbers.{three, four}
use Rattle.geometry.specs.Geometry.{is_whole, line_quad, round_point_of, intersect_of}
use Rattle.geometry.specs.declared.Point.{Point}
use Rattle.geometry.specs.declared.Quad.{Quad}
use Rattle.measure.specs.Measure.{measure_of}
use Rattle.breaks.specs.Breaks.{Row, break_at}
use Rattle.attempt.specs.Answers.{Statelet, score_of, Best, none, best, ok_for_half, combined}
use Rattle.measure.specs.declared.Measure as M

abbrev pub Measure : Type 0
Measure = ℕ → ℕ → Quad → Option M.Measure

-- a run's own: between the lengths of the two breaks
abbrev pub measure_by : List (List Float) → Row → Measure
measure_by samples breaks i j q = measure_of samples (break_at breaks i).s (break_at breaks j).s q

abbrev pub best_at : List Best → ℕ → Best
best_at st b = get_or st b none

-- what stands at each break; or a measure was refused, 8
pub data States : Type 0 where
  refused : States
  states : List Best → States

module _ (measure : Measure) (breaks : Row) (penalty : Float) where
  abbrev pub xy : ℕ → Point
  xy i = (break_at breaks i).xy

  -- ---- one attempt: the piece is measured even where nothing stands to build it on

  abbrev pub measured : Option M.Measure → ℕ → ℕ → Quad → List Best → States
  measured None i j q st = refused
  measured (Some m) i j q st =
      states (set st j (combined (best_at st j) (best_at st i) (record { from = i; to = j; quad = q }) m.error penalty))

  unfoldable pub try_quad : ℕ → ℕ → Quad → List Best → States
  try_quad i j q st = measured (measure i j q) i j q st

  -- ---- one pair: the straight piece first, from a whole-unit break alone; then the bent piece, at the rounded crossing, if it is allowed

  abbrev pub try_if : Bool → ℕ → ℕ → Quad → List Best → States
  try_if true i j q st = try_quad i j q st
  try_if false i j q st = states st

  abbrev pub straight : ℕ → ℕ → List Best → States
  straight i j st = try_if (is_whole (xy i)) i j (line_quad (xy i) (xy j)) st

  abbrev pub bent_quad : ℕ → ℕ → Point → Quad
  bent_quad i j p = record { p0 = xy i; p1 = round_point_of p; p2 = xy j }

  abbrev pub bent_at : Option Point → ℕ → ℕ → List Best → States
  bent_at None i j st = states st
  bent_at (Some p) i j st = try_if (ok_for_half (best_at st i) (bent_quad i j p)) i j (bent_quad i j p) st

  unfoldable pub bent : ℕ → ℕ → List Best → States
  bent i j st = bent_at (intersect_of (xy i) (break_at breaks i).dir (xy j) (break_at breaks j).dir) i j st

  abbrev pub then_bent : ℕ → ℕ → States → States
  then_bent i j refused = refused
  then_bent i j (states st) = bent i j st

  unfoldable pub try_line_quad : ℕ → ℕ → List Best → States
  try_line_quad i j st = then_bent i j (straight i j st)

  -- ---- many pairs

  abbrev pub onward : ℕ → ℕ → States → States
  onward i j refused = refused
  onward i j (states st) = try_line_quad i j st

  unfoldable pub try_all : List (ℕ × ℕ) → States → States
  try_all [] s = s
  try_all ((i, j) ∷ ps) s = try_all ps (onward i j s)

-- (0, i) and (i, n), for k breaks from i on
unfoldable pub splits_from : ℕ → ℕ → ℕ → List (ℕ × ℕ)
splits_from zero i n = []
splits_from (suc k) i n = (0, i) ∷ (i, n) ∷ splits_from k (i + 1) n

-- for i from 1 to n - 1
abbrev pub splits : ℕ → List (ℕ × ℕ)
splits n = splits_from (n - 1) 1 n

-- (j, i) for j falling to 0
unfoldable pub falling : ℕ → ℕ → List (ℕ × ℕ)
falling zero i = []
falling (suc j) i = (j, i) ∷ falling j i

unfoldable pub search_from : ℕ → ℕ → List (ℕ × ℕ)
search_from zero i = []
search_from (suc k) i = falling i i ++ search_from k (i + 1)

-- for i from 1 to n
abbrev pub search : ℕ → List (ℕ × ℕ)
search n = search_from n 1

-- ---- the three phases

-- the answer at the last break and the pairs tried; no answer there leaves the contour unchanged; a refused measure is refusal 8
pub data Optimised : Type 0 where
  refused8 : Optimised
  unchanged : ℕ → Optimised
  solved : Statelet → ℕ → Optimised

module _ (measure : Measure) (breaks : Row) (penalty : Float) where
  abbrev pub last_break : ℕ
  last_break = length breaks - 1

  abbrev pub pairs_after_splits : ℕ
  pairs_after_splits = 1 + length (splits last_break)

  abbrev pub pairs_after_search : ℕ
  pairs_after_search = pairs_after_splits + length (search last_break)

  -- what stands at the last break after so many pairs
  abbrev pub ended : ℕ → Best → Optimised
  ended pairs none = unchanged pairs
  ended pairs (best a) = solved a pairs

  abbrev pub chosen_if : Bool → Optimised → Optimised → Optimised
  chosen_if true next now = next
  chosen_if false next now = now

  -- the next phase, if the last score is above the limit
  abbrev pub go_on : Float → ℕ → Best → Optimised → Optimised
  go_on limit pairs none next = unchanged pairs
  go_on limit pairs (best a) next = chosen_if (lt limit (score_of a)) next (solved a pairs)

  abbrev pub searched : States → Optimised
  searched refused = refused8
  searched (states st) = ended pairs_after_search (best_at st last_break)

  -- if the last score > 4.0 penalties, (j, i)
  abbrev pub splitted : States → Optimised
  splitted refused = refused8
  splitted (states st) =
      go_on (mul binary64 four penalty) pairs_after_splits (best_at st last_break) (searched (try_all measure breaks penalty (search last_break) (states st)))

  -- if the last score > 3.0 penalties, (0, i) and (i, n)
  abbrev pub tried : States → Optimised
  tried refused = refused8
  tried (states st) = go_on (mul binary64 three penalty) 1 (best_at st last_break) (splitted (try_all measure breaks penalty (splits last_break) (states st)))

  -- (0, n)
  unfoldable pub optimize_of : Optimised
  optimize_of = tried (try_line_quad measure breaks penalty 0 last_break (replicate (length breaks) none))
