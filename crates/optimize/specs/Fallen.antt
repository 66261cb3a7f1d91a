-- How many lookups fell off the samples in the attempts of a run that are measured, whether they store an answer or not. `optimize_of` and what it
-- is made of stay as they are: the number stands beside them. A refused attempt has none, and after it none is measured. Definitions, and laws of sums.
use Rattle.std.specs.Prelude.{ℕ, ◌+◌, ◌*◌, ◌≤◌, Bool, true, false, List, [], ◌∷◌, ◌≡◌, refl, length, replicate, Float, Option, Some, None}
use Rattle.std.proofs.Common.{arith}
use Rattle.std.specs.Float.{binary64}
use Rattle.std.specs.Float.Ieee.{mul, lt}
use Rattle.float.specs.Numbers.{three, four}
use Rattle.geometry.specs.Geometry.{is_whole, line_quad, intersect_of}
use Rattle.geometry.specs.declared.Quad.{Quad}
use Rattle.geometry.specs.declared.Point.{Point}
use Rattle.measure.specs.Fallen.{fallen_of}
use Rattle.breaks.specs.Breaks.{Row, break_at}
use Rattle.attempt.specs.Answers.{score_of, Best, none, best, ok_for_half}
use Rattle.optimize.specs.Laws.{most_pairs}
use Rattle.optimize.specs.Tally.{untried, plus, Sums}
use Rattle.optimize.specs.declared.Tally.{Tally}
use Rattle.optimize.specs.Optimize.{Measure, measure_by, best_at, States, refused, states, xy, straight, bent_quad, try_line_quad, onward, try_all}
use Rattle.optimize.specs.Optimize.{splits, search, last_break}

-- of the piece between two breaks
abbrev pub Fallen : Type 0
Fallen = ℕ → ℕ → Quad → ℕ

-- a run's own
abbrev pub fallen_between : List (List Float) → Row → Fallen
fallen_between samples breaks i j q = fallen_of samples (break_at breaks i).s (break_at breaks j).s q

module _ (measure : Measure) (fallen : Fallen) (breaks : Row) (penalty : Float) where
  abbrev pub fell_if : Bool → ℕ → ℕ → Quad → ℕ
  fell_if true i j q = fallen i j q
  fell_if false i j q = 0

  -- ---- one pair: the straight piece, then the bent one

  abbrev pub fell_straight : ℕ → ℕ → ℕ
  fell_straight i j = fell_if (is_whole (xy measure breaks penalty i)) i j (line_quad (xy measure breaks penalty i) (xy measure breaks penalty j))

  abbrev pub fell_bent_at : Option Point → ℕ → ℕ → List Best → ℕ
  fell_bent_at None i j st = 0
  fell_bent_at (Some p) i j st =
      let q = bent_quad measure breaks penalty i j p in
      fell_if (ok_for_half (best_at st i) q) i j q

  unfoldable pub fell_bent : ℕ → ℕ → List Best → ℕ
  fell_bent i j st =
      fell_bent_at (intersect_of (xy measure breaks penalty i) (break_at breaks i).dir (xy measure breaks penalty j) (break_at breaks j).dir) i j st

  abbrev pub fell_then_bent : ℕ → ℕ → States → ℕ
  fell_then_bent i j refused = 0
  fell_then_bent i j (states st) = fell_bent i j st

  unfoldable pub fell_pair : ℕ → ℕ → List Best → ℕ
  fell_pair i j st = fell_straight i j + fell_then_bent i j (straight measure breaks penalty i j st)

  -- ---- many pairs

  abbrev pub fell_onward : ℕ → ℕ → States → ℕ
  fell_onward i j refused = 0
  fell_onward i j (states st) = fell_pair i j st

  unfoldable pub fell_all : List (ℕ × ℕ) → States → ℕ
  fell_all [] s = 0
  fell_all ((i, j) ∷ ps) s = fell_onward i j s + fell_all ps (onward measure breaks penalty i j s)

  -- ---- the three phases: the next one only where `optimize_of` goes on

  abbrev pub fell_next : Bool → ℕ → ℕ
  fell_next true next = next
  fell_next false next = 0

  abbrev pub fell_going_on : Float → Best → ℕ → ℕ
  fell_going_on limit none next = 0
  fell_going_on limit (best a) next = fell_next (lt limit (score_of a)) next

  abbrev last : ℕ
  last = last_break measure breaks penalty

  abbrev pub fell_after_splits : States → ℕ
  fell_after_splits refused = 0
  fell_after_splits (states st) = fell_going_on (mul binary64 four penalty) (best_at st last) (fell_all (search last) (states st))

  abbrev pub fell_after_first : States → ℕ
  fell_after_first refused = 0
  fell_after_first (states st) =
      fell_going_on (mul binary64 three penalty) (best_at st last)
      (fell_all (splits last) (states st) + fell_after_splits (try_all measure breaks penalty (splits last) (states st)))

  -- of a run
  unfoldable pub fell_of : ℕ
  fell_of =
      let nothing = replicate (length breaks) none in
      fell_pair 0 last nothing + fell_after_first (try_line_quad measure breaks penalty 0 last nothing)

-- ---- at most 80 lookups an attempt, two attempts a pair, and so many pairs a run

abbrev pub most_fallen : ℕ
most_fallen = 336035360

abbrev pub FewFall : Type 0
FewFall =
    (samples : List (List Float)) (breaks : Row) (penalty : Float) → length breaks ≤ 2048 →
    fell_of (measure_by samples breaks) (fallen_between samples breaks) breaks penalty ≤ most_fallen

-- what so many runs count at the most
pub record Upto (runs : ℕ) (t : Tally) : Type 0 where
  pub pairs_in : t.pairs ≤ runs * most_pairs
  pub fallen_in : t.fallen ≤ runs * most_fallen

pub nothing_upto : (runs : ℕ) → Upto runs untried
nothing_upto runs = record { pairs_in = omega arith; fallen_in = omega arith }

pub upto_more : {j k : ℕ} {t : Tally} → j ≤ k → Upto j t → Upto k t
upto_more h u = record { pairs_in = omega (arith, u.pairs_in); fallen_in = omega (arith, u.fallen_in) }

pub plus_untried : (t : Tally) → t ≡ plus t untried
plus_untried t =
    let pairs : t.pairs + 0 ≡ t.pairs = omega arith in
    let fallen : t.fallen + 0 ≡ t.fallen = omega arith in
    rw (pairs, fallen) refl

pub plus_upto : {k : ℕ} {t u : Tally} → Upto k t → Upto 1 u → Upto (k + 1) (plus t u)
plus_upto h one = record { pairs_in = omega (arith, h.pairs_in, one.pairs_in); fallen_in = omega (arith, h.fallen_in, one.fallen_in) }

-- a contour has at most 1,025 runs: below 2^40
pub upto_sums : {t u : Tally} → Upto 1024 t → Upto 1 u → Sums t u
upto_sums h one = record { pairs = omega (arith, h.pairs_in, one.pairs_in); fallen = omega (arith, h.fallen_in, one.fallen_in) }
