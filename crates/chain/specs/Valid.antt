-- Demand 3: a chain of pieces over the breaks of a run, when its shape is good, its published sum, and what the checker says of it. Written in
-- the user's words over document 01's points, quads, breaks and measure. Definitions only.
use Rattle.std.specs.Prelude.{ℕ, zero, suc, ◌+◌, ◌-◌, Bool, true, false, not, ◌&&◌, ◌||◌, List, [], ◌∷◌, eqb, ltb, leb, length, get_or, Float, Option, Some, None}
use Rattle.std.specs.Float.{nan, binary64}
use Rattle.std.specs.Float.Ieee.{add, mul, eq, is_nan}
use Rattle.float.specs.Numbers.{nought, half, one, two}
use Rattle.geometry.specs.Geometry.{lerp_of, is_close, is_line, is_whole, intersect_of, round_point_of}
use Rattle.geometry.specs.declared.Break.{Break}
use Rattle.geometry.specs.declared.Point.{Point}
use Rattle.geometry.specs.declared.Quad.{Quad}
use Rattle.breaks.specs.Breaks.{Row, break_at}
use Rattle.measure.specs.Measure.{measure_of}
use Rattle.chain.specs.declared.Piece.{Piece}
use Rattle.measure.specs.declared.Measure.{Measure}

-- ---- equal as f64 values: IEEE equality, or both NaN

abbrev pub equals : Float → Float → Bool
equals a b = eq a b || (is_nan a && is_nan b)

abbrev pub equal_points : Point → Point → Bool
equal_points p q = equals p.x q.x && equals p.y q.y

-- ---- one piece, from break a to break b with the control c

abbrev pub drawn : Break → Break → Point → Quad
drawn a b c = record { p0 = a.xy; p1 = c; p2 = b.xy }

-- the control equals lerp(start, end, 0.5)
abbrev pub straight : Break → Break → Point → Bool
straight a b c = equal_points c (lerp_of a.xy b.xy half)

-- the crossing of the two directions exists and the control equals its rounding
abbrev pub at_rounded : Point → Option Point → Bool
at_rounded c None = false
at_rounded c (Some p) = equal_points c (round_point_of p)

abbrev pub bent : Break → Break → Point → Bool
bent a b c = at_rounded c (intersect_of a.xy a.dir b.xy b.dir)

abbrev pub curved : Quad → Bool
curved q = not (is_line q)

-- a piece is before this one, it is curved, and the midpoint of their controls is close to the join, in x and in y
abbrev pub follows_curve : Option Quad → Quad → Bool
follows_curve None q = false
follows_curve (Some p) q = curved p && is_close (lerp_of p.p1 q.p1 half) q.p0

-- straight from a whole-unit break, or bent; and one that starts off whole units is curved and follows a curved one
unfoldable pub valid_piece : Option Quad → Break → Break → Point → Bool
valid_piece before a b c =
    ((is_whole a.xy && straight a b c) || bent a b c)
    && (is_whole a.xy || (curved (drawn a b c) && follows_curve before (drawn a b c)))

-- ---- the shape of a chain: all but the score

-- from break `at`, each piece starts at the break where the one before ended, break numbers rise, and the last ends at break n
unfoldable pub leads : ℕ → ℕ → List Piece → Bool
leads n at [] = eqb at n
leads n at (p ∷ ps) = eqb p.from at && (ltb p.from p.to && (leb p.to n && leads n p.to ps))

-- one piece, from break 0 to break 0
abbrev pub stays : List Piece → Bool
stays [] = false
stays (p ∷ []) = eqb p.from 0 && eqb p.to 0
stays (p ∷ q ∷ ps) = false

-- from the first break to the last, n; a run with one break has one piece, staying there
abbrev pub joined : ℕ → List Piece → Bool
joined zero ps = stays ps
joined (suc n) ps = leads (suc n) 0 ps

module _ (breaks : Row) where
  abbrev pub piece_quad : Piece → Quad
  piece_quad p = drawn (break_at breaks p.from) (break_at breaks p.to) p.control

  unfoldable pub valid_from : Option Quad → List Piece → Bool
  valid_from before [] = true
  valid_from before (p ∷ ps) = valid_piece before (break_at breaks p.from) (break_at breaks p.to) p.control && valid_from (Some (piece_quad p)) ps

  unfoldable pub good_shape : List Piece → Bool
  good_shape ps = joined (length breaks - 1) ps && valid_from None ps

-- ---- the published sum: (previous + penalty * m) + measure, previous 0.0 at the start

-- m is 1 for a line or a smooth joint of two curves, else 2
abbrev pub one_or_two : Bool → Float
one_or_two true = one
one_or_two false = two

abbrev pub joint_of : Option Quad → Quad → Float
joint_of before q = one_or_two (is_line q || follows_curve before q)

abbrev pub added : Float → Option Quad → Quad → Option Float → Option Measure → Option Float
added penalty before q None m = None
added penalty before q (Some s) None = None
added penalty before q (Some s) (Some m) = Some (add binary64 (add binary64 s (mul binary64 penalty (joint_of before q))) m.error)

module _ (samples : List (List Float)) (breaks : Row) (penalty : Float) where
  -- how far the control as given is from the samples between the lengths of the two breaks
  abbrev pub measure_of_piece : Piece → Option Measure
  measure_of_piece p = measure_of samples (break_at breaks p.from).s (break_at breaks p.to).s (piece_quad breaks p)

  -- in chain order; a measure that is refused ends it
  unfoldable pub sum_from : Option Quad → Option Float → List Piece → Option Float
  sum_from before s [] = s
  sum_from before s (p ∷ ps) = sum_from (Some (piece_quad breaks p)) (added penalty before (piece_quad breaks p) s (measure_of_piece p)) ps

  abbrev pub sum_of : List Piece → Option Float
  sum_of ps = sum_from None (Some nought) ps

  -- ---- what the checker says

  abbrev pub judged_by : Option Float → Float → Option Bool
  judged_by None score = None
  judged_by (Some s) score = Some (equals s score)

  -- a fault of shape is no; then a measure that is refused is 8; then yes exactly when the sum equals the score
  abbrev pub verdict : Bool → List Piece → Float → Option Bool
  verdict false ps score = Some false
  verdict true ps score = judged_by (sum_of ps) score

  unfoldable pub checked_chain : List Piece → Float → Option Bool
  checked_chain ps score = verdict (good_shape breaks ps) ps score

-- ---- a chain in rows: start breaks, end breaks, controls' x and y

module _ (starts ends : List ℕ) (xs ys : List Float) where
  abbrev pub piece_at : ℕ → Piece
  piece_at i = record { from = get_or starts i 0; to = get_or ends i 0; control = record { x = get_or xs i nan; y = get_or ys i nan } }

  -- k pieces from place i on
  unfoldable pub pieces_from : ℕ → ℕ → List Piece
  pieces_from zero i = []
  pieces_from (suc k) i = piece_at i ∷ pieces_from k (i + 1)

  abbrev pub chain_in : List Piece
  chain_in = pieces_from (length starts) 0

abbrev pub even_rows : List ℕ → List ℕ → List Float → List Float → Bool
even_rows starts ends xs ys = eqb (length ends) (length starts) && (eqb (length xs) (length starts) && eqb (length ys) (length starts))

-- rows of unequal length get no
abbrev pub checked_if : Bool → Option Bool → Option Bool
checked_if false c = Some false
checked_if true c = c

unfoldable pub check_rows : List (List Float) → Row → Float → List ℕ → List ℕ → List Float → List Float → Float → Option Bool
check_rows samples breaks penalty starts ends xs ys score =
    checked_if (even_rows starts ends xs ys) (checked_chain samples breaks penalty (chain_in starts ends xs ys) score)
