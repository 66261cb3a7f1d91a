-- The five tests that can make a segment's start a corner, each by its own name: document 02's W1. Definitions only.
use Rattle.std.specs.Prelude.{ℕ, Bool, ◌||◌, List, ℤ}
use Rattle.geometry.specs.declared.Point.{Point}
use Rattle.outline.specs.Segments.{seg_at, leaving_of, arriving_of, origin, previous}
use Rattle.corners.specs.Corners.{turns_x, turns_y, zero_before, zero_after, angle_corner, chord_at, state_at}
use Rattle.why.specs.declared.Marks.{Marks}

abbrev pub either : Bool → Bool → Bool
either a b = a || b

-- of a contour and m, its number of segments
module _ (xs ys : List ℤ) (fs : List ℕ) (m : ℕ) where
  -- what step k is compared with: in the first round, and in the second, which starts with the state that the first ended with
  abbrev pub first_state : ℕ → Point
  first_state k = state_at xs ys fs origin k

  abbrev pub second_state : ℕ → Point
  second_state k = state_at xs ys fs (state_at xs ys fs origin m) k

  -- a sign turn in x, in y: the product was negative in either of the two rounds
  abbrev pub turn_x : ℕ → Bool
  turn_x k = either (turns_x (first_state k) (chord_at xs ys fs k)) (turns_x (second_state k) (chord_at xs ys fs k))

  abbrev pub turn_y : ℕ → Bool
  turn_y k = either (turns_y (first_state k) (chord_at xs ys fs k)) (turns_y (second_state k) (chord_at xs ys fs k))

  -- the tangents before and after the start of segment k, going round
  abbrev pub tangent_before : ℕ → Point
  tangent_before k = arriving_of (seg_at xs ys fs (previous m k))

  abbrev pub tangent_after : ℕ → Point
  tangent_after k = leaving_of (seg_at xs ys fs k)

  -- a zero tangent before, a zero tangent after; an angle
  abbrev pub none_before : ℕ → Bool
  none_before k = zero_before (tangent_before k) (tangent_after k)

  abbrev pub none_after : ℕ → Bool
  none_after k = zero_after (tangent_before k) (tangent_after k)

  abbrev pub angled : ℕ → Bool
  angled k = angle_corner (tangent_before k) (tangent_after k)

  -- all that hold are given
  abbrev pub reasons_of : ℕ → Marks
  reasons_of k = record { x = turn_x k; y = turn_y k; before = none_before k; after = none_after k; angle = angled k }

-- some reason is named
abbrev pub some_reason : Marks → Bool
some_reason r = r.x || (r.y || (r.before || (r.after || r.angle)))
