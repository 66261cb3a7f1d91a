-- One walk through the attempts of a run, with a visitor: each piece that is measured is seen, with what stands at the breaks then, before it is tried. What
-- the optimiser ends with is the end of this walk, whatever is gathered on the way; the lookups that fell, the trace and the first score stored at the last
-- break are what three visitors gather. The theorems are `Walk-Ends`, `counts_fallen`, `lists_attempts` and `notes_first` of proofs/Seen. Definitions and
-- statements.
use Rattle.std.specs.Prelude.{ℕ, ◌+◌, ◌<◌, Bool, true, false, List, [], ◌∷◌, ◌++◌, ◌≡◌, length, replicate, Float, Option, Some, None}
use Rattle.std.specs.Float.{binary64}
use Rattle.std.specs.Float.Ieee.{mul, lt}
use Rattle.float.specs.Numbers.{three, four}
use Rattle.geometry.specs.Geometry.{is_whole, line_quad, intersect_of}
use Rattle.geometry.specs.declared.Quad.{Quad}
use Rattle.geometry.specs.declared.Point.{Point}
use Rattle.breaks.specs.Breaks.{Row, break_at}
use Rattle.attempt.specs.Answers.{score_of, Best, none, best, ok_for_half, may_build, total_of}
use Rattle.optimize.specs.Optimize.{Measure, best_at, States, refused, states, xy, try_quad, bent_quad, splits, search}
use Rattle.optimize.specs.Optimize.{Optimised, refused8, unchanged, solved, pairs_after_splits, searched, last_break, optimize_of}
use Rattle.optimize.specs.Fallen.{Fallen, fell_of}
use Rattle.optimize.specs.Trace.{Attempt, trace_of, last_scores}
use Rattle.measure.specs.declared.Measure as M

-- a piece that is measured
pub record Try : Type 0 where
  pub from : ℕ
  pub to : ℕ
  pub bent : Bool
  pub quad : Quad

-- what was gathered so far, and the states; or what the work ended with
pub data Walk (A : Type 0) : Type 0 where
  walk : A → States → Walk A

pub data End (A : Type 0) : Type 0 where
  end : A → Optimised → End A

abbrev pub gathered : {A : Type 0} → End A → A
gathered (end a o) = a

abbrev pub outcome : {A : Type 0} → End A → Optimised
outcome (end a o) = o

module _ (measure : Measure) (breaks : Row) (penalty : Float) {A : Type 0} (see : Try → List Best → A → A) where
  -- ---- one pair: the straight piece, then the bent one

  abbrev pub seen_if : Bool → Try → A → List Best → Walk A
  seen_if true t a st = walk (see t st a) (try_quad measure breaks penalty t.from t.to t.quad st)
  seen_if false t a st = walk a (states st)

  abbrev pub bent_seen : Option Point → ℕ → ℕ → A → List Best → Walk A
  bent_seen None i j a st = walk a (states st)
  bent_seen (Some p) i j a st =
      let q = bent_quad measure breaks penalty i j p in
      seen_if (ok_for_half (best_at st i) q) (record { from = i; to = j; bent = true; quad = q }) a st

  abbrev pub then_seen : ℕ → ℕ → Walk A → Walk A
  then_seen i j (walk a refused) = walk a refused
  then_seen i j (walk a (states st)) =
      bent_seen (intersect_of (xy measure breaks penalty i) (break_at breaks i).dir (xy measure breaks penalty j) (break_at breaks j).dir) i j a st

  unfoldable pub pair_seen : ℕ → ℕ → Walk A → Walk A
  pair_seen i j (walk a refused) = walk a refused
  pair_seen i j (walk a (states st)) =
      let q = line_quad (xy measure breaks penalty i) (xy measure breaks penalty j) in
      then_seen i j (seen_if (is_whole (xy measure breaks penalty i)) (record { from = i; to = j; bent = false; quad = q }) a st)

  -- ---- many pairs

  unfoldable pub all_seen : List (ℕ × ℕ) → Walk A → Walk A
  all_seen [] w = w
  all_seen ((i, j) ∷ ps) w = all_seen ps (pair_seen i j w)

  -- ---- the three phases: the next one only where the last score is above its limit

  abbrev last : ℕ
  last = last_break measure breaks penalty

  abbrev pub end_if : Bool → End A → End A → End A
  end_if true next now = next
  end_if false next now = now

  abbrev pub go_on_seen : Float → ℕ → Best → A → End A → End A
  go_on_seen limit pairs none a next = end a (unchanged pairs)
  go_on_seen limit pairs (best b) a next = end_if (lt limit (score_of b)) next (end a (solved b pairs))

  abbrev pub searched_seen : Walk A → End A
  searched_seen (walk a s) = end a (searched measure breaks penalty s)

  abbrev pub splitted_seen : Walk A → End A
  splitted_seen (walk a refused) = end a refused8
  splitted_seen (walk a (states st)) =
      go_on_seen (mul binary64 four penalty) (pairs_after_splits measure breaks penalty) (best_at st last) a
      (searched_seen (all_seen (search last) (walk a (states st))))

  abbrev pub tried_seen : Walk A → End A
  tried_seen (walk a refused) = end a refused8
  tried_seen (walk a (states st)) =
      go_on_seen (mul binary64 three penalty) 1 (best_at st last) a (splitted_seen (all_seen (splits last) (walk a (states st))))

  -- a run, with what is gathered before
  unfoldable pub walked : A → End A
  walked a = tried_seen (pair_seen 0 last (walk a (states (replicate (length breaks) none))))

-- ---- the visitors

-- the lookups that fell in it
abbrev pub add_fallen : Fallen → Try → List Best → ℕ → ℕ
add_fallen fallen t st n = n + fallen t.from t.to t.quad

-- the attempt with its score: it gets one where its measure is there and there is an answer to build it on, or it may start the run, whether it is then
-- stored or not
abbrev pub attempt_if : Bool → Attempt → List Attempt
attempt_if true a = a ∷ []
attempt_if false a = []

abbrev pub attempt_by : Option M.Measure → Float → Try → List Best → List Attempt
attempt_by None penalty t st = []
attempt_by (Some m) penalty t st =
    attempt_if (may_build t.from (best_at st t.from))
    (record { from = t.from; to = t.to; bent = t.bent; score = total_of (best_at st t.from) t.quad m.error penalty })

abbrev pub add_attempt : Measure → Float → Try → List Best → List Attempt → List Attempt
add_attempt measure penalty t st l = l ++ attempt_by (measure t.from t.to t.quad) penalty t st

-- the first score stored at a break
pub data First : Type 0 where
  not_yet : First
  score : Float → First

abbrev pub standing : Best → First
standing none = not_yet
standing (best a) = score (score_of a)

abbrev pub standing_in : ℕ → States → First
standing_in b refused = not_yet
standing_in b (states st) = standing (best_at st b)

abbrev pub note_first : Measure → Row → Float → ℕ → Try → List Best → First → First
note_first measure breaks penalty b t st not_yet = standing_in b (try_quad measure breaks penalty t.from t.to t.quad st)
note_first measure breaks penalty b t st (score s) = score s

-- ---- the statements

-- whatever is gathered, the walk ends with what the optimiser ends with
abbrev pub WalkEnds : Type 1
WalkEnds =
    (measure : Measure) (breaks : Row) (penalty : Float) (A : Type 0) (see : Try → List Best → A → A) (a : A) →
    outcome (walked measure breaks penalty see a) ≡ optimize_of measure breaks penalty

-- the lookups that fell are those of every piece that is seen
abbrev pub CountsFallen : Type 0
CountsFallen =
    (measure : Measure) (fallen : Fallen) (breaks : Row) (penalty : Float) →
    gathered (walked measure breaks penalty (add_fallen fallen) 0) ≡ fell_of measure fallen breaks penalty

-- the trace is every piece that is seen and gets a score, in the order of trial
abbrev pub ListsAttempts : Type 0
ListsAttempts =
    (measure : Measure) (breaks : Row) (penalty : Float) →
    gathered (walked measure breaks penalty (add_attempt measure penalty) []) ≡ trace_of measure breaks penalty

-- the first of the scores of attempts into the last break is the first score stored there
abbrev pub head_of : List Float → First
head_of [] = not_yet
head_of (s ∷ ss) = score s

abbrev pub NotesFirst : Type 0
NotesFirst =
    (measure : Measure) (breaks : Row) (penalty : Float) → 0 < length breaks →
    gathered (walked measure breaks penalty (note_first measure breaks penalty (last_break measure breaks penalty)) not_yet)
    ≡ head_of (last_scores measure breaks penalty)
