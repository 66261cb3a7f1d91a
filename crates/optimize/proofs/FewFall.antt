-- In a run of at most 2,048 breaks few lookups fall. Assumes nothing.
use Prim.Native.Nat.{ℕ, ◌+◌, ◌*◌, ◌-◌, ◌≤◌}
use native.Mathlib.Omega.{arith}
use mathlib.Core.Bool.{Bool, true, false}
use mathlib.Core.List.{List}
use lib.Ieee.{Float, binary64, mul, lt}
use lib.ListN.{length, replicate}
use Rattle.float.specs.Numbers.{three, four}
use Rattle.breaks.specs.Breaks.{Row}
use Rattle.attempt.specs.Answers.{Best, none, best, score_of}
use Rattle.optimize.specs.Optimize.{Measure, measure_by, best_at, States, refused, states, try_line_quad, try_all, splits, search}
use Rattle.optimize.specs.Laws.{all_few}
use Rattle.optimize.specs.Fallen.{Fallen, fallen_between, fell_all, fell_next, fell_going_on, fell_after_splits, fell_after_first, fell_of, FewFall}
use Rattle.optimize.proofs.Phases.{between_most, pair_most, all_most}

module _ (samples : List (List Float)) (breaks : Row) (penalty : Float) where
  abbrev measure : Measure
  measure = measure_by samples breaks

  abbrev fallen : Fallen
  fallen = fallen_between samples breaks

  abbrev n : ℕ
  n = length breaks - 1

  -- the next phase is gone through or not
  next_most : (above : Bool) (next : ℕ) → fell_next measure fallen breaks penalty above next ≤ next
  next_most true next = omega arith
  next_most false next = omega arith

  going_most : (limit : Float) (b : Best) (next : ℕ) → fell_going_on measure fallen breaks penalty limit b next ≤ next
  going_most limit none next = omega arith
  going_most limit (best a) next = next_most (lt limit (score_of a)) next

  splits_most : (s : States) → fell_after_splits measure fallen breaks penalty s ≤ 160 * length (search n)
  splits_most refused = omega arith
  splits_most (states st) =
      let later = all_most measure fallen breaks penalty (between_most samples breaks) (search n) (states st) in
      let gone = going_most (mul binary64 four penalty) (best_at st n) (fell_all measure fallen breaks penalty (search n) (states st)) in
      omega arith

  first_most : (s : States) → fell_after_first measure fallen breaks penalty s ≤ 160 * length (splits n) + 160 * length (search n)
  first_most refused = omega arith
  first_most (states st) =
      let after = try_all measure breaks penalty (splits n) (states st) in
      let here = all_most measure fallen breaks penalty (between_most samples breaks) (splits n) (states st) in
      let later = splits_most after in
      let gone =
      going_most (mul binary64 three penalty) (best_at st n)
      (fell_all measure fallen breaks penalty (splits n) (states st) + fell_after_splits measure fallen breaks penalty after) in
      omega arith

pub few_fall : FewFall
unfolding fell_of
few_fall samples breaks penalty few =
    let nothing = replicate (length breaks) none in
    let first = pair_most (measure_by samples breaks) (fallen_between samples breaks) breaks penalty (between_most samples breaks) 0 (length breaks - 1) nothing in
    let later = first_most samples breaks penalty (try_line_quad (measure_by samples breaks) breaks penalty 0 (length breaks - 1) nothing) in
    omega (arith, all_few (length breaks - 1) (omega arith))
