-- What the functions of the optimiser promise of the rows that they are lent, for any states that these stand for: for the contracts of the functions
-- that are not public. Definitions only.
use Rattle.std.specs.Prelude.{ℕ, ◌+◌, ◌≤◌, false, List, ◌≡◌, T, Float, Option}
use Rattle.std.specs.Float.Ieee.{lt}
use Rattle.rows.specs.Lent.{Lent, before, after}
use Rattle.geometry.specs.Geometry.{is_whole, line_quad}
use Rattle.geometry.specs.declared.Quad.{Quad}
use Rattle.measure.specs.NotNegative.{not_negative, Measurable}
use Rattle.breaks.specs.Breaks.{Row, break_at}
use Rattle.optimize.specs.declared.Solved.{Solved}
use Rattle.attempt.specs.Answers.{Best, is_curve, total_of}
use Rattle.attempt.specs.Value.{best_of}
use Rattle.optimize.specs.Optimize.{Measure, measure_by, States, states, try_quad, bent, then_bent, try_line_quad, try_all}
use Rattle.optimize.specs.Optimize.{Optimised, tried, splitted, optimize_of}
use Rattle.optimize.specs.Fallen.{Fallen, fallen_between, fell_bent, fell_then_bent, fell_pair, fell_all, fell_after_splits, fell_after_first, fell_of}
use Rattle.optimize.specs.Stored.{standing_at, Phase, Room, Into, Rep, Becomes, Solves}

-- the states after a step, and how many lookups fell in it
abbrev pub Step : Type 0
Step = List Best → States × ℕ

module _ (samples : List (List Float)) (breaks : Row) (penalty : Float) where
  abbrev measure : Measure
  measure = measure_by samples breaks

  abbrev fallen : Fallen
  fallen = fallen_between samples breaks

  abbrev pub by_quad : ℕ → ℕ → Quad → Step
  by_quad i j q st = (try_quad measure breaks penalty i j q st, fallen i j q)

  abbrev pub by_bent : ℕ → ℕ → Step
  by_bent i j st = (bent measure breaks penalty i j st, fell_bent measure fallen breaks penalty i j st)

  -- the straight piece, then the bent one
  abbrev pub by_both : ℕ → ℕ → Step
  by_both i j st =
      let q = line_quad (break_at breaks i).xy (break_at breaks j).xy in
      let s = try_quad measure breaks penalty i j q st in
      (then_bent measure breaks penalty i j s, fallen i j q + fell_then_bent measure fallen breaks penalty i j s)

  abbrev pub by_pair : ℕ → ℕ → Step
  by_pair i j st = (try_line_quad measure breaks penalty i j st, fell_pair measure fallen breaks penalty i j st)

  abbrev pub by_all : List (ℕ × ℕ) → Step
  by_all ps st = (try_all measure breaks penalty ps (states st), fell_all measure fallen breaks penalty ps (states st))

  abbrev pub after_splits_by : ℕ → List Best → Optimised × ℕ
  after_splits_by fell st = (splitted measure breaks penalty (states st), fell + fell_after_splits measure fallen breaks penalty (states st))

  abbrev pub after_first_by : ℕ → List Best → Optimised × ℕ
  after_first_by fell st = (tried measure breaks penalty (states st), fell + fell_after_first measure fallen breaks penalty (states st))

  abbrev pub run_by : Optimised × ℕ
  run_by = (optimize_of measure breaks penalty, fell_of measure fallen breaks penalty)

-- ---- what is left in the rows for answers and links

-- by a step on the pair (i, j), whose answer goes to stored answer k
abbrev pub Takes : Row → Lent (List Float) → Lent ℕ → ℕ → ℕ → ℕ → Step → Option ℕ → Type 0
Takes breaks answers links i j k next r =
    (f : Phase) (n : ℕ) (st : List Best) → Room n breaks (before answers) (before links) → Into f n i j k → Rep f n breaks (before answers) (before links) st →
    Becomes f n breaks (after answers) (after links) (next st).0 (next st).1 r

-- by many, which lead from the phase f to the phase g
abbrev pub Leads : Phase → Phase → ℕ → Row → Lent (List Float) → Lent ℕ → Step → Option ℕ → Type 0
Leads f g n breaks answers links next r =
    (st : List Best) → Rep f n breaks (before answers) (before links) st → Becomes g n breaks (after answers) (after links) (next st).0 (next st).1 r

-- by all that is left to do from the phase f on
abbrev pub Ends : Phase → ℕ → Row → Lent (List Float) → Lent ℕ → (List Best → Optimised × ℕ) → Option Solved → Type 0
Ends f n breaks answers links end r =
    (st : List Best) → Rep f n breaks (before answers) (before links) st → Solves breaks (after answers) (after links) (end st).0 (end st).1 r

-- ---- pairs that are passed over

-- why no piece from break j changes an answer with the score `limit` at the length s1: each is measured with no lookup that falls, and none that is
-- built on what stands at j scores less; or none is tried, since the break is off whole units and what stands there is no curve
pub data Idle (samples : List (List Float)) (breaks : Row) (answers : List (List Float)) (links : List ℕ) (penalty : Float) (j : ℕ) (s1 limit : Float) : Type 0 where
  beaten : ((q : Quad) → Measurable samples (break_at breaks j).s s1 q) →
      ((q : Quad) (error : Float) → T (not_negative error) → lt (total_of (best_of (standing_at breaks answers links j)) q error penalty) limit ≡ false) →
      Idle samples breaks answers links penalty j s1 limit
  untried : is_whole (break_at breaks j).xy ≡ false → is_curve (best_of (standing_at breaks answers links j)) ≡ false → Idle samples breaks answers links penalty j s1 limit

-- a step into break i and what is left of it do the same, from any states that the rows stand for
abbrev pub Skips : Row → List (List Float) → List ℕ → ℕ → Step → Step → Type 0
Skips breaks answers links i next rest = (f : Phase) (n : ℕ) (st : List Best) → i ≤ n → Rep f n breaks answers links st → next st ≡ rest st
