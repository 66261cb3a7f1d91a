-- Document 01's values on both sides, its rows marked P, and what document 02's W3, W5, W6 and W9 add to them: cases and results as data, one way
-- to evaluate them, one list. Most rows are one computation together, here; those that work a run take several steps, in proofs/, and proofs/Table says of
-- all of them that they hold. docs/TABLE.md has them for readers. Assumes nothing.
use Rattle.std.specs.Prelude.{ℕ, zero, suc, ◌+◌, ◌^◌, Bool, true, false, ◌≡◌, refl, ℤ, pos, negsuc, Float, Some}
use mathlib.Core.List.{List, [], ◌∷◌, ◌++◌, map, Memᴰ}
use Rattle.std.specs.Float.Ieee as Ieee
use Rattle.std.specs.Float.{binary64}
use Rattle.std.specs.Float.Ieee.{of_int}
use Rattle.float.specs.Float.{abs_of, tiny, close_to, whole_by, root_of, root_units, root_near, root_down}
use Rattle.float.specs.Numbers.{nought, one}
use Rattle.float.proofs.Table.{each}
use Rattle.geometry.specs.declared.Point.{Point}
use Rattle.refusals.specs.Refusals.{off_neighbours, judged}
use Rattle.refusals.specs.Number.{number_of}
use Rattle.outline.specs.Segments.{count_of, end_of, place_after, seg_from}
use Rattle.corners.specs.Corners as Corners
use Rattle.corners.specs.Corners.{angle_corner}
use Rattle.runs.specs.Runs.{marks_from, corner_list, stops_of, between}
use Rattle.settings.specs.Settings.{yes_of, settings_of, penalty_of, judged_for}
use Rattle.breaks.specs.Breaks as Breaks
use Rattle.breaks.specs.declared.Grid.{Grid}
use Rattle.breaks.specs.Breaks.{half_grid, whole_grid, on_grid}
use Rattle.attempt.specs.Answers.{combined}
use Rattle.optimize.specs.Optimize.{Measure, try_quad, bent, try_line_quad, try_all, splits_from}
use Rattle.optimize.specs.Optimize.{falling, search_from, Optimised, refused8, unchanged, solved, optimize_of}
use Rattle.edition.specs.Scratch.{full_rooms}
use Rattle.contour.specs.Points.{Points, pieces_points}
use Rattle.contour.specs.Implied.{is_implied, implied_at, look, drop_from, drop_implied, cut_of}
use Rattle.assembly.specs.Assembly.{after_run, crunch_all, crunch_runs}
use Rattle.crunch.specs.Crunch.{Outcome, crunch_of}
use Rattle.crunch.specs.Crunch as Crunch

-- what a row gives
pub data Case : Type 0 where
  -- a whole contour at a penalty in sixteenths, in the crate's mode (0) or closed (1), in rows with document 01's full rooms
  contour : ℕ → ℕ → List ℤ → List ℤ → List ℕ → Case
  -- two tangents
  tangents : Point → Point → Case
  -- points, of which implied ones are dropped, in the crate's mode (0) or closed (1)
  points : ℕ → Points → Case
  -- a coordinate, brought to a grid
  coordinate : Grid → Float → Case
  -- the breaks 0 to n on one line, at a penalty in sixteenths, with every piece at this error
  run : ℕ → ℕ → Float → Case

-- what comes of it
pub data Comes : Type 0 where
  -- by this number
  refused : ℕ → Comes
  -- the points out, and the pairs tried
  gives : Points → ℕ → Comes
  -- whether the angle makes a corner
  by_angle : Bool → Comes
  left : Points → Comes
  break_at : Float → Comes
  -- the pairs tried
  tried : ℕ → Comes

pub record Row : Type 0 where
  pub case : Case
  pub result : Comes

-- ---- evaluation

abbrev pub outcome : Outcome → Comes
outcome (Crunch.refused k) = refused (number_of k)
outcome (Crunch.crunched ps t) = gives ps t.pairs

-- n breaks from (k, 0) on, each a unit after the one before, all with the direction (1, 0): no two of them cross
abbrev pub in_line : ℕ → ℕ → Breaks.Row
in_line zero k = []
in_line (suc n) k = (of_int binary64 (pos k) ∷ of_int binary64 (pos k) ∷ nought ∷ one ∷ nought ∷ []) ∷ in_line n (k + 1)

abbrev pub at_error : Float → Measure
at_error e i j q = Some (record { error = e })

abbrev pub pairs_of : Optimised → Comes
pairs_of refused8 = refused 8
pairs_of (unchanged p) = tried p
pairs_of (solved a p) = tried p

abbrev pub evaluate : Case → Comes
evaluate (contour penalty closed xs ys fs) = outcome (crunch_of full_rooms 16384 (settings_of penalty 0 closed) xs ys fs)
evaluate (tangents d0 d1) = by_angle (angle_corner d0 d1)
evaluate (points closed ps) = left (drop_implied (yes_of closed) ps)
evaluate (coordinate g x) = break_at (on_grid g x)
evaluate (run penalty n e) = pairs_of (optimize_of (at_error e) (in_line (n + 1) 0) (penalty_of (settings_of penalty 0 0)))

-- ---- the rows

abbrev pub on : ℤ → ℤ → List ℤ
on x y = x ∷ y ∷ pos 1 ∷ []

abbrev pub off : ℤ → ℤ → List ℤ
off x y = x ∷ y ∷ pos 0 ∷ []

abbrev pub number : ℕ → Float
number k = of_int binary64 (pos k)

-- the tangent (x, y), of whole numbers
abbrev pub whole : ℤ → ℤ → Point
whole x y = record { x = of_int binary64 x; y = of_int binary64 y }

-- rows that no run is worked in: one computation shows them all
abbrev pub at_once : List Row
at_once =
    -- one on-curve point (7, 9)
    record { case = contour 16 0 (pos 7 ∷ []) (pos 9 ∷ []) (1 ∷ []); result = gives (on (pos 7) (pos 9) ∷ []) 0 }
    -- (0, 0), (100, 0), (0, 100), all on
    ∷ record {
      case = contour 16 0 (pos 0 ∷ pos 100 ∷ pos 0 ∷ []) (pos 0 ∷ pos 0 ∷ pos 100 ∷ []) (1 ∷ 1 ∷ 1 ∷ []);
      result = gives (on (pos 0) (pos 100) ∷ on (pos 100) (pos 0) ∷ on (pos 0) (pos 0) ∷ []) 0;
    }
    -- (0, 0) on, (100, 0) on, (50, 100) off: the closing curve is lost
    ∷ record {
      case = contour 16 0 (pos 0 ∷ pos 100 ∷ pos 50 ∷ []) (pos 0 ∷ pos 0 ∷ pos 100 ∷ []) (1 ∷ 1 ∷ 0 ∷ []);
      result = gives (on (pos 100) (pos 0) ∷ on (pos 0) (pos 0) ∷ []) 0;
    }
    -- closed, the first two: the point itself; the triangle, in the order of its points, from its first corner
    ∷ record { case = contour 16 1 (pos 7 ∷ []) (pos 9 ∷ []) (1 ∷ []); result = gives (on (pos 7) (pos 9) ∷ []) 0 }
    ∷ record {
      case = contour 16 1 (pos 0 ∷ pos 100 ∷ pos 0 ∷ []) (pos 0 ∷ pos 0 ∷ pos 100 ∷ []) (1 ∷ 1 ∷ 1 ∷ []);
      result = gives (on (pos 0) (pos 0) ∷ on (pos 100) (pos 0) ∷ on (pos 0) (pos 100) ∷ []) 0;
    }
    -- tangents
    ∷ record { case = tangents (whole (pos 100) (pos 0)) (whole (pos 100) (pos 2)); result = by_angle false }
    ∷ record { case = tangents (whole (pos 100) (pos 0)) (whole (pos 99) (pos 2)); result = by_angle true }
    ∷ record { case = tangents (whole (pos 100) (pos 0)) (whole (negsuc 99) (pos 0)); result = by_angle false }
    -- on (-1, 0) between off (32767, 0) twice: dropped, and kept in closed mode
    ∷ record {
      case = points 0 (off (pos 32767) (pos 0) ∷ on (negsuc 0) (pos 0) ∷ off (pos 32767) (pos 0) ∷ []);
      result = left (off (pos 32767) (pos 0) ∷ off (pos 32767) (pos 0) ∷ []);
    }
    ∷ record {
      case = points 1 (off (pos 32767) (pos 0) ∷ on (negsuc 0) (pos 0) ∷ off (pos 32767) (pos 0) ∷ []);
      result = left (off (pos 32767) (pos 0) ∷ on (negsuc 0) (pos 0) ∷ off (pos 32767) (pos 0) ∷ []);
    }
    -- on (0, 0) between off (0, 0) and off (1, 0), whose midpoint is a half unit: dropped, and kept in closed mode
    ∷ record {
      case = points 0 (off (pos 0) (pos 0) ∷ on (pos 0) (pos 0) ∷ off (pos 1) (pos 0) ∷ []);
      result = left (off (pos 0) (pos 0) ∷ off (pos 1) (pos 0) ∷ []);
    }
    ∷ record {
      case = points 1 (off (pos 0) (pos 0) ∷ on (pos 0) (pos 0) ∷ off (pos 1) (pos 0) ∷ []);
      result = left (off (pos 0) (pos 0) ∷ on (pos 0) (pos 0) ∷ off (pos 1) (pos 0) ∷ []);
    }
    -- on (0, 0) between off (2, 2) and off (-2, -2), their midpoint: dropped in closed mode too, and kept there where it is the first of the row
    ∷ record {
      case = points 1 (off (pos 2) (pos 2) ∷ on (pos 0) (pos 0) ∷ off (negsuc 1) (negsuc 1) ∷ []);
      result = left (off (pos 2) (pos 2) ∷ off (negsuc 1) (negsuc 1) ∷ []);
    }
    ∷ record {
      case = points 1 (on (pos 0) (pos 0) ∷ off (pos 2) (pos 2) ∷ off (negsuc 1) (negsuc 1) ∷ []);
      result = left (on (pos 0) (pos 0) ∷ off (pos 2) (pos 2) ∷ off (negsuc 1) (negsuc 1) ∷ []);
    }
    -- break coordinates for 0.25, 0.24, -0.25
    ∷ record { case = coordinate half_grid (Ieee.round binary64 false 25 100); result = break_at (Ieee.round binary64 false 1 2) }
    ∷ record { case = coordinate half_grid (Ieee.round binary64 false 24 100); result = break_at (Ieee.round binary64 false 0 1) }
    ∷ record { case = coordinate half_grid (Ieee.round binary64 true 25 100); result = break_at (Ieee.round binary64 true 1 2) }
    -- on whole units: for 0.25, 0.5, -0.5, 0.49999999999999994
    ∷ record { case = coordinate whole_grid (Ieee.round binary64 false 25 100); result = break_at (Ieee.round binary64 false 0 1) }
    ∷ record { case = coordinate whole_grid (Ieee.round binary64 false 1 2); result = break_at (Ieee.round binary64 false 1 1) }
    ∷ record { case = coordinate whole_grid (Ieee.round binary64 true 1 2); result = break_at (Ieee.round binary64 true 1 1) }
    ∷ record { case = coordinate whole_grid (Ieee.round binary64 false 49999999999999994 (10 ^ 17)); result = break_at (Ieee.round binary64 false 0 1) }
    -- pairs tried, n = 4: by a last score of 2; of exactly 3.0, no splits; of 3.5; of exactly 4.0, no search; of 5
    ∷ record { case = run 16 4 (number 1); result = tried 1 }
    ∷ record { case = run 16 4 (number 2); result = tried 1 }
    ∷ record { case = run 16 4 (Ieee.round binary64 false 5 2); result = tried 7 }
    ∷ record { case = run 16 4 (number 3); result = tried 7 }
    ∷ record { case = run 16 4 (number 4); result = tried 17 }
    -- n = 1: by a last score of exactly 3.0, and of 5
    ∷ record { case = run 16 1 (number 2); result = tried 1 }
    ∷ record { case = run 16 1 (number 4); result = tried 2 }
    -- the same at 32: the thresholds are 6.0 and 8.0
    ∷ record { case = run 32 4 (number 4); result = tried 1 }
    ∷ record { case = run 32 4 (Ieee.round binary64 false 9 2); result = tried 7 }
    ∷ record { case = run 32 4 (number 6); result = tried 7 }
    ∷ record { case = run 32 4 (number 7); result = tried 17 }
    ∷ record { case = run 32 1 (number 4); result = tried 1 }
    ∷ record { case = run 32 1 (number 7); result = tried 2 }
    -- penalties outside 1 to 256, after the refusals of the rows
    ∷ record { case = contour 0 0 (pos 7 ∷ []) (pos 9 ∷ []) (1 ∷ []); result = refused 16 }
    ∷ record { case = contour 257 0 (pos 7 ∷ []) (pos 9 ∷ []) (1 ∷ []); result = refused 16 }
    ∷ record { case = contour 257 0 [] [] []; result = refused 2 }
    ∷ record { case = contour 0 0 (pos 7 ∷ []) (pos 9 ∷ []) (0 ∷ []); result = refused 4 }
    ∷ []

-- rows that work a run, each with one pair
abbrev pub in_steps : List Row
in_steps =
    -- (5, 5) on, off, on: unchanged, with the start twice, since the closing line is a segment of its own; closed, it is its own answer
    record {
      case = contour 16 0 (pos 5 ∷ pos 5 ∷ pos 5 ∷ []) (pos 5 ∷ pos 5 ∷ pos 5 ∷ []) (1 ∷ 0 ∷ 1 ∷ []);
      result = gives (on (pos 5) (pos 5) ∷ on (pos 5) (pos 5) ∷ off (pos 5) (pos 5) ∷ on (pos 5) (pos 5) ∷ []) 1;
    }
    ∷ record {
      case = contour 16 1 (pos 5 ∷ pos 5 ∷ pos 5 ∷ []) (pos 5 ∷ pos 5 ∷ pos 5 ∷ []) (1 ∷ 0 ∷ 1 ∷ []);
      result = gives (on (pos 5) (pos 5) ∷ off (pos 5) (pos 5) ∷ on (pos 5) (pos 5) ∷ []) 1;
    }
    -- (0, 0) on, (1, 0) off, (1, 1) on, (0, 1) on: the curve becomes one bent piece, itself; closed, so does the whole contour
    ∷ record {
      case = contour 16 0 (pos 0 ∷ pos 1 ∷ pos 1 ∷ pos 0 ∷ []) (pos 0 ∷ pos 0 ∷ pos 1 ∷ pos 1 ∷ []) (1 ∷ 0 ∷ 1 ∷ 1 ∷ []);
      result = gives (on (pos 0) (pos 1) ∷ on (pos 1) (pos 1) ∷ off (pos 1) (pos 0) ∷ on (pos 0) (pos 0) ∷ []) 1;
    }
    ∷ record {
      case = contour 16 1 (pos 0 ∷ pos 1 ∷ pos 1 ∷ pos 0 ∷ []) (pos 0 ∷ pos 0 ∷ pos 1 ∷ pos 1 ∷ []) (1 ∷ 0 ∷ 1 ∷ 1 ∷ []);
      result = gives (on (pos 0) (pos 0) ∷ off (pos 1) (pos 0) ∷ on (pos 1) (pos 1) ∷ on (pos 0) (pos 1) ∷ []) 1;
    }
    -- closed, the lost curve comes back
    ∷ record {
      case = contour 16 1 (pos 0 ∷ pos 100 ∷ pos 50 ∷ []) (pos 0 ∷ pos 0 ∷ pos 100 ∷ []) (1 ∷ 1 ∷ 0 ∷ []);
      result = gives (on (pos 0) (pos 0) ∷ on (pos 100) (pos 0) ∷ off (pos 50) (pos 100) ∷ []) 1;
    }
    ∷ []

abbrev pub rows : List Row
rows = at_once ++ in_steps

-- a list of rows holds where what they give, evaluated, is what they say comes of it
abbrev pub Hold : List Row → Type 0
Hold rs = map (λ (r : Row). evaluate r.case) rs ≡ map (λ (r : Row). r.result) rs

-- the whole table does (proofs/Table)
abbrev pub TableHolds : Type 0
TableHolds = Hold rows

pub at_once_hold : Hold at_once
unfolding Corners.marked Corners.state_at Corners.corners_of crunch_of judged_for judged off_neighbours crunch_runs crunch_all after_run stops_of corner_list between
    marks_from count_of end_of place_after seg_from pieces_points drop_from look implied_at is_implied cut_of optimize_of try_all try_line_quad bent try_quad
    penalty_of combined splits_from falling search_from abs_of tiny close_to whole_by root_of root_units root_near root_down Ieee.to_signed Ieee.of_int Ieee.of_bits
    Ieee.round Ieee.size Ieee.add Ieee.sub Ieee.mul Ieee.div Ieee.lt
at_once_hold = refl

-- each row by itself
pub shown_at_once : (r : Row) → Memᴰ r at_once → evaluate r.case ≡ r.result
shown_at_once = each (λ (r : Row). evaluate r.case) (λ (r : Row). r.result) at_once at_once_hold
