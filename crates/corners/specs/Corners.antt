-- The corners of a contour, `segment_sp`: two rounds compare signs of start-to-end steps; then tangents are compared. Definitions only.
use Rattle.std.specs.Prelude.{ℕ, zero, suc, Bool, true, false, ◌&&◌, ◌||◌, List, ℤ, set, replicate, Float}
use Rattle.std.specs.Float.{binary64}
use Rattle.std.specs.Float.Ieee.{sub, mul, div, lt}
use Rattle.float.specs.Float.{abs_of, close_to}
use Rattle.geometry.specs.declared.Point.{Point}
use Rattle.float.specs.Numbers.{nought, fiftieth}
use Rattle.geometry.specs.Geometry.{norm_of}
use Rattle.outline.specs.Segments.{previous, point, origin, seg_at, count_of, chord_of, leaving_of, arriving_of}

-- ---- signs

-- a sign turn in x, in y: the product of the step compared with and this step is negative
abbrev pub turns_x : Point → Point → Bool
turns_x s c = lt (mul binary64 s.x c.x) nought

abbrev pub turns_y : Point → Point → Bool
turns_y s c = lt (mul binary64 s.y c.y) nought

abbrev pub turns : Point → Point → Bool
turns s c = turns_x s c || turns_y s c

-- what the next step is compared with: this step after a turn, and in a coordinate that was close to 0
abbrev pub replaced : Bool → Float → Float → Float
replaced true old new = new
replaced false old new = old

abbrev pub kept_of : Float → Float → Float
kept_of old new = replaced (close_to old nought) old new

abbrev pub after_turn : Bool → Point → Point → Point
after_turn true s c = c
after_turn false s c = point (kept_of s.x c.x) (kept_of s.y c.y)

-- ---- tangents

-- both coordinates are close to 0
abbrev pub zero_tangent : Point → Bool
zero_tangent d = close_to d.x nought && close_to d.y nought

-- a zero tangent before, a zero tangent after
abbrev pub zero_before : Point → Point → Bool
zero_before d0 d1 = zero_tangent d0

abbrev pub zero_after : Point → Point → Bool
zero_after d0 d1 = zero_tangent d1

abbrev pub bend : Point → Point → Float
bend d0 d1 = sub binary64 (mul binary64 d1.x d0.y) (mul binary64 d0.x d1.y)

-- |bend / (h0 * h1)| > 0.02, where h is the `hypot` of a tangent. The steps of a contour are whole and of at most 2 ^ 16, so that `norm_of`
-- is the root, rounded once, of the exact whole sum of squares: `BendTestIsExact` of specs/Statements.
abbrev pub angle_corner : Point → Point → Bool
angle_corner d0 d1 = lt fiftieth (abs_of (div binary64 (bend d0 d1) (mul binary64 (norm_of d0) (norm_of d1))))

abbrev pub tangent_corner : Point → Point → Bool
tangent_corner d0 d1 = zero_before d0 d1 || (zero_after d0 d1 || angle_corner d0 d1)

-- ---- marks

-- a row of n places with no mark
abbrev pub none : ℕ → List Bool
none n = replicate n false

abbrev pub mark_if : Bool → List Bool → ℕ → List Bool
mark_if true marks k = set marks k true
mark_if false marks k = marks

-- the first k places are tested, and each that passes is marked
unfoldable pub marked : (ℕ → Bool) → ℕ → List Bool → List Bool
marked test zero marks = marks
marked test (suc k) marks = mark_if (test k) (marked test k marks) k

module _ (xs ys : List ℤ) (fs : List ℕ) where
  abbrev pub chord_at : ℕ → Point
  chord_at k = chord_of (seg_at xs ys fs k)

  -- what step k is compared with, in a round that starts with s
  unfoldable pub state_at : Point → ℕ → Point
  state_at s zero = s
  state_at s (suc k) = after_turn (turns (state_at s k) (chord_at k)) (state_at s k) (chord_at k)

  abbrev pub turn_at : Point → ℕ → Bool
  turn_at s k = turns (state_at s k) (chord_at k)

  -- the tangents before and after the start of segment k, of m
  abbrev pub tangent_at : ℕ → ℕ → Bool
  tangent_at m k = tangent_corner (arriving_of (seg_at xs ys fs (previous m k))) (leaving_of (seg_at xs ys fs k))

  -- the first round starts with (0, 0), and the second where the first ended
  abbrev pub after_first : Point
  after_first = state_at origin (count_of fs)

  -- in a row of n places
  unfoldable pub corners_of : ℕ → List Bool
  corners_of n =
      let m = count_of fs in
      marked (tangent_at m) m (marked (turn_at after_first) m (marked (turn_at origin) m (none n)))
