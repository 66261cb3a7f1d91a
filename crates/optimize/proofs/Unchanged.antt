-- A run is left unchanged exactly where no answer stands at the last break after the first pair. Assumes nothing.
use Prim.Native.Nat.{ℕ, ◌<◌}
use native.Mathlib.Omega.{arith}
use mathlib.Core.Bool.{Bool, true, false}
use mathlib.Core.List.{List, [], ◌∷◌}
use mathlib.Core.Path.{◌≡◌, refl}
use lib.ListN.{length, replicate, length-replicate}
use lib.Ieee.{Float, lt}
use Rattle.breaks.specs.Breaks.{Row}
use Rattle.attempt.specs.Answers.{Statelet, score_of, Best, none, best}
use Rattle.optimize.specs.Optimize.{Measure, best_at, States, refused, states, try_line_quad, try_all, splits, search, Optimised, refused8, solved, ended, chosen_if, go_on, searched, splitted, tried, last_break, optimize_of}
use Rattle.optimize.specs.Unchanged.{Ends, refuses, leaves, answers, EndsSo, UnchangedBy}
use Rattle.optimize.proofs.Good.{Good, nothing, stands, Carried, kept, pair_carries, all_carries, none_yet}

-- refused, or an answer
data Answers : Optimised → Type 0 where
  none_measured : Answers refused8
  one : (a : Statelet) (pairs : ℕ) → Answers (solved a pairs)

module _ (measure : Measure) (breaks : Row) (penalty : Float) (some : 0 < length breaks) where
  abbrev last : ℕ
  last = last_break measure breaks penalty

  inside : last < length breaks
  inside = omega arith

  -- where an attempt into the last break got a score, an answer stands there
  end_answers : (p : ℕ) (x : Best) {s : Float} {ss : List Float} → Good (s ∷ ss) x → Answers (ended measure breaks penalty p x)
  end_answers p (best a) g = one a p
  end_answers p none {s = s} {ss = ss} g = elim g [ ]

  go_answers : (limit : Float) (p : ℕ) (x : Best) (next : Optimised) {s : Float} {ss : List Float} → Good (s ∷ ss) x → Answers next → Answers (go_on measure breaks penalty limit p x next)
  go_answers limit p (best a) next g n = chosen (lt limit (score_of a))
    where
      chosen : (above : Bool) → Answers (chosen_if measure breaks penalty above next (solved a p))
      chosen true = n
      chosen false = one a p
  go_answers limit p none next {s = s} {ss = ss} g n = elim g [ ]

  search_answers : (s : States) {t : Float} {ss : List Float} → Carried (length breaks) last (t ∷ ss) s → Answers (searched measure breaks penalty s)
  search_answers refused c = none_measured
  search_answers (states st) (kept long g) = end_answers _ (best_at st last) g

  splits_answer : (s : States) {t : Float} {ss : List Float} → Carried (length breaks) last (t ∷ ss) s → Answers (splitted measure breaks penalty s)
  splits_answer refused c = none_measured
  splits_answer (states st) (kept long g) =
      go_answers _ _ (best_at st last) _ g (search_answers _ (all_carries measure breaks penalty (length breaks) last inside (search last) (states st) (kept {st = st} long g)))

  so : {o : Optimised} → Answers o → Ends measure breaks penalty o
  so none_measured = refuses
  so (one a p) = answers a p

  -- by what stands after the first pair
  first_ends : (st : List Best) {ss : List Float} → try_line_quad measure breaks penalty 0 last (replicate (length breaks) none) ≡ states st → length st ≡ length breaks →
      (x : Best) → best_at st last ≡ x → Good ss x → Ends measure breaks penalty (tried measure breaks penalty (states st))
  first_ends st e long none is g = rw is (leaves (record { st = st; first_pair = e; nothing = is }))
  first_ends st e long (best a) is (stands {s} {ss} f i) = rw is (chosen (lt _ (score_of a)))
    where
      next : Ends measure breaks penalty (splitted measure breaks penalty (try_all measure breaks penalty (splits last) (states st)))
      next = so (splits_answer _ (all_carries measure breaks penalty (length breaks) last inside (splits last) (states st) {ss = s ∷ ss} (kept {st = st} long (rw is (stands {s = s} {ss = ss} {a = a} f i)))))

      chosen : (above : Bool) → Ends measure breaks penalty (chosen_if measure breaks penalty above (splitted measure breaks penalty (try_all measure breaks penalty (splits last) (states st))) (solved a 1))
      chosen true = next
      chosen false = answers a 1

  tried_ends : (s : States) {ss : List Float} → try_line_quad measure breaks penalty 0 last (replicate (length breaks) none) ≡ s → Carried (length breaks) last ss s →
      Ends measure breaks penalty (tried measure breaks penalty s)
  tried_ends refused e c = refuses
  tried_ends (states st) e (kept long g) = first_ends st e long _ refl g

pub ends : EndsSo
unfolding optimize_of
ends measure breaks penalty some =
    let last = last_break measure breaks penalty in
    tried_ends measure breaks penalty some _ refl
    (pair_carries measure breaks penalty (length breaks) last (omega arith) 0 last (replicate (length breaks) none) {ss = []} (length-replicate (length breaks) none) (rw (none_yet measure breaks penalty some) nothing))

pub unchanged_by : UnchangedBy
unfolding optimize_of
unchanged_by measure breaks penalty n = rw (n.first_pair, n.nothing) refl
