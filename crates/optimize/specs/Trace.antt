-- The attempts of a run, in the order of trial: the pair, whether the piece is straight or bent, and the score that it got, with what stood at the start
-- break at that time. An attempt from a break that has no answer, other than break 0, is measured and gets no score: it is not among them, nor is one whose
-- measure is refused, which ends the work. Definitions only.
use Rattle.std.specs.Prelude.{ℕ, ◌<◌, Bool, true, false, List, [], ◌∷◌, ◌++◌, ◌≡◌, T, eqb, length, get_or, replicate, Float, Option, Some, None}
use Rattle.std.specs.Float.{nan, binary64}
use Rattle.std.specs.Float.Ieee.{mul, lt, le, is_nan}
use Rattle.float.specs.Numbers.{three, four}
use Rattle.geometry.specs.Geometry.{is_whole, line_quad, intersect_of}
use Rattle.geometry.specs.declared.Point.{Point}
use Rattle.geometry.specs.declared.Quad.{Quad}
use Rattle.breaks.specs.Breaks.{Row, break_at}
use Rattle.attempt.specs.Answers.{Statelet, score_of, Best, none, best, ok_for_half, may_build, total_of}
use Rattle.optimize.specs.Optimize.{Measure, best_at, States, refused, states, xy, straight, bent_quad, try_line_quad, onward, try_all}
use Rattle.optimize.specs.Optimize.{splits, search, solved, last_break, optimize_of}
use Rattle.measure.specs.declared.Measure as M

pub record Attempt : Type 0 where
  pub from : ℕ
  pub to : ℕ
  pub bent : Bool
  pub score : Float

module _ (measure : Measure) (breaks : Row) (penalty : Float) where
  -- ---- one attempt

  abbrev pub scored_if : Bool → Attempt → List Attempt
  scored_if true a = a ∷ []
  scored_if false a = []

  abbrev pub scored : Option M.Measure → Bool → ℕ → ℕ → Quad → List Best → List Attempt
  scored None bend i j q st = []
  scored (Some m) bend i j q st =
      scored_if (may_build i (best_at st i)) (record { from = i; to = j; bent = bend; score = total_of (best_at st i) q m.error penalty })

  abbrev pub scored_where : Bool → Bool → ℕ → ℕ → Quad → List Best → List Attempt
  scored_where true bend i j q st = scored (measure i j q) bend i j q st
  scored_where false bend i j q st = []

  -- ---- one pair: the straight piece, then the bent one

  abbrev pub straightly : ℕ → ℕ → List Best → List Attempt
  straightly i j st = scored_where (is_whole (xy measure breaks penalty i)) false i j (line_quad (xy measure breaks penalty i) (xy measure breaks penalty j)) st

  abbrev pub bently_at : Option Point → ℕ → ℕ → List Best → List Attempt
  bently_at None i j st = []
  bently_at (Some p) i j st =
      let q = bent_quad measure breaks penalty i j p in
      scored_where (ok_for_half (best_at st i) q) true i j q st

  unfoldable pub bently : ℕ → ℕ → List Best → List Attempt
  bently i j st =
      bently_at (intersect_of (xy measure breaks penalty i) (break_at breaks i).dir (xy measure breaks penalty j) (break_at breaks j).dir) i j st

  abbrev pub bently_after : ℕ → ℕ → States → List Attempt
  bently_after i j refused = []
  bently_after i j (states st) = bently i j st

  unfoldable pub pair_tried : ℕ → ℕ → List Best → List Attempt
  pair_tried i j st = straightly i j st ++ bently_after i j (straight measure breaks penalty i j st)

  -- ---- many pairs

  abbrev pub pair_after : ℕ → ℕ → States → List Attempt
  pair_after i j refused = []
  pair_after i j (states st) = pair_tried i j st

  unfoldable pub all_tried : List (ℕ × ℕ) → States → List Attempt
  all_tried [] s = []
  all_tried ((i, j) ∷ ps) s = pair_after i j s ++ all_tried ps (onward measure breaks penalty i j s)

  -- ---- the three phases: the next one only where `optimize_of` goes on

  abbrev pub next_if : Bool → List Attempt → List Attempt
  next_if true next = next
  next_if false next = []

  abbrev pub going_on : Float → Best → List Attempt → List Attempt
  going_on limit none next = []
  going_on limit (best a) next = next_if (lt limit (score_of a)) next

  abbrev last : ℕ
  last = last_break measure breaks penalty

  abbrev pub after_splits : States → List Attempt
  after_splits refused = []
  after_splits (states st) = going_on (mul binary64 four penalty) (best_at st last) (all_tried (search last) (states st))

  abbrev pub after_first : States → List Attempt
  after_first refused = []
  after_first (states st) =
      going_on (mul binary64 three penalty) (best_at st last)
      (all_tried (splits last) (states st) ++ after_splits (try_all measure breaks penalty (splits last) (states st)))

  -- the attempts of a run
  unfoldable pub trace_of : List Attempt
  trace_of =
      let nothing = replicate (length breaks) none in
      pair_tried 0 last nothing ++ after_first (try_line_quad measure breaks penalty 0 last nothing)

-- ---- the scores at one break

abbrev pub into_if : Bool → Float → List Float → List Float
into_if true s ss = s ∷ ss
into_if false s ss = ss

-- of the attempts into break b: the first of them is stored, since nothing stood there
unfoldable pub scores_into : ℕ → List Attempt → List Float
scores_into b [] = []
scores_into b (a ∷ l) = into_if (eqb a.to b) a.score (scores_into b l)

abbrev pub last_scores : Measure → Row → Float → List Float
last_scores measure breaks penalty = scores_into (last_break measure breaks penalty) (trace_of measure breaks penalty)

-- s is at most each of them that is no NaN
pub data AtMost (s : Float) : List Float → Type 0 where
  no_more : AtMost s []
  and_also : {t : Float} {ts : List Float} → (is_nan t ≡ false → T (le s t)) → AtMost s ts → AtMost s (t ∷ ts)

-- s is one of them
pub data Among (s : Float) : List Float → Type 0 where
  now : {ss : List Float} → Among s (s ∷ ss)
  later : {t : Float} {ss : List Float} → Among s ss → Among s (t ∷ ss)

-- s is a number, one of them, and at most each of them that is no NaN
pub record Least (s : Float) (ss : List Float) : Type 0 where
  pub number : is_nan s ≡ false
  pub at_most : AtMost s ss
  pub among : Among s ss

-- ---- how good: `how_good` of proofs/Good.antt

-- if the first score stored at the last break is no NaN, the returned score is at most each score of an attempt into that break that is no NaN
abbrev pub HowGood : Type 0
HowGood =
    (measure : Measure) (breaks : Row) (penalty : Float) (a : Statelet) (pairs : ℕ) → 0 < length breaks → optimize_of measure breaks penalty ≡ solved a pairs →
    is_nan (get_or (last_scores measure breaks penalty) 0 nan) ≡ false → Least (score_of a) (last_scores measure breaks penalty)
