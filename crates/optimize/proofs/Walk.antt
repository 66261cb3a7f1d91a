-- What each pair keeps, the three phases keep: so it holds of the states that the optimiser ends with. Assumes nothing.
use Prim.Native.Nat.{ℕ, zero, suc, ◌<◌}
use native.Mathlib.Decide.{ℕ_discrete, dec_lt}
use native.Mathlib.Omega.{arith}
use mathlib.Core.Bool.{Bool, true, false}
use mathlib.Core.List.{List, [], ◌∷◌}
use mathlib.Core.Path.{◌≡◌, refl, subst}
use lib.ListN.{length, set, replicate}
use lib.Seq.{get_or-set_same, get_or-set_other, set_out}
use lib.Ieee.{Float, lt}
use Rattle.breaks.specs.Breaks.{Row}
use Rattle.attempt.specs.Answers.{Statelet, score_of, Best, none, best}
use Rattle.optimize.specs.Optimize.{Measure, best_at, States, refused, states, try_line_quad, onward, try_all, splits, search, Optimised, refused8, unchanged, solved, ended, chosen_if, go_on, searched, splitted, tried, last_break, optimize_of}

-- what holds of each break, where what is stored at break j has it too
pub set_each : (P : ℕ → Best → Type 0) (st : List Best) (j : ℕ) (t : Best) → ((b : ℕ) → P b (best_at st b)) → P j t → (b : ℕ) → P b (best_at (set st j t) b)
set_each P st j t all h b = by (ℕ_discrete b j)
  where
    here : Dec (j < length st) → P j (best_at (set st j t) j)
    here (yes k) = rw (get_or-set_same st j t none k) h
    here (no k) = rw (set_out st j t (omega arith)) (all j)

    by : Dec (b ≡ j) → P b (best_at (set st j t) b)
    by (yes e) = rw e (here (dec_lt j (length st)))
    by (no k) = rw (get_or-set_other st j b t none k) (all b)

pub none_yet : (k b : ℕ) → best_at (replicate k none) b ≡ none
none_yet zero b = refl
none_yet (suc k) zero = refl
none_yet (suc k) (suc b) = none_yet k b

module _ (P : List Best → Type 0) where
  pub data After : States → Type 0 where
    stops : After refused
    holds : {st : List Best} → P st → After (states st)

  -- an answer stands at break b of such states
  pub record Stands (b : ℕ) (a : Statelet) : Type 0 where
    pub st : List Best
    pub keeps : P st
    pub there : best_at st b ≡ best a

  data Ends (b : ℕ) : Optimised → Type 0 where
    refuses : Ends b refused8
    leaves : {p : ℕ} → Ends b (unchanged p)
    answers : {a : Statelet} {p : ℕ} → Stands b a → Ends b (solved a p)

  module _ (measure : Measure) (breaks : Row) (penalty : Float) (pair : (i j : ℕ) (st : List Best) → P st → After (try_line_quad measure breaks penalty i j st)) where
    abbrev last : ℕ
    last = last_break measure breaks penalty

    onward_after : (i j : ℕ) {s : States} → After s → After (onward measure breaks penalty i j s)
    onward_after i j stops = stops
    onward_after i j (holds {st} h) = pair i j st h

    all_after : (ps : List (ℕ × ℕ)) {s : States} → After s → After (try_all measure breaks penalty ps s)
    unfolding try_all
    all_after [] h = h
    all_after ((i, j) ∷ ps) h = all_after ps (onward_after i j h)

    end_after : (p : ℕ) (st : List Best) (x : Best) → best_at st last ≡ x → P st → Ends last (ended measure breaks penalty p x)
    end_after p st none e h = leaves
    end_after p st (best a) e h = answers (record { st = st; keeps = h; there = e })

    go_after : (limit : Float) (p : ℕ) (st : List Best) (x : Best) (next : Optimised) → best_at st last ≡ x → P st → Ends last next → Ends last (go_on measure breaks penalty limit p x next)
    go_after limit p st none next e h n = leaves
    go_after limit p st (best a) next e h n = chosen (lt limit (score_of a))
      where
        chosen : (above : Bool) → Ends last (chosen_if measure breaks penalty above next (solved a p))
        chosen true = n
        chosen false = answers (record { st = st; keeps = h; there = e })

    after_search : {s : States} → After s → Ends last (searched measure breaks penalty s)
    after_search stops = refuses
    after_search (holds {st} h) = end_after _ st (best_at st last) refl h

    after_splits_lem : {s : States} → After s → Ends last (splitted measure breaks penalty s)
    after_splits_lem stops = refuses
    after_splits_lem (holds {st} h) = go_after _ _ st (best_at st last) _ refl h (after_search (all_after (search last) (holds h)))

    after_first : {s : States} → After s → Ends last (tried measure breaks penalty s)
    after_first stops = refuses
    after_first (holds {st} h) = go_after _ _ st (best_at st last) _ refl h (after_splits_lem (all_after (splits last) (holds h)))

    all_ends : P (replicate (length breaks) none) → Ends last (optimize_of measure breaks penalty)
    unfolding optimize_of
    all_ends h = after_first (pair 0 last (replicate (length breaks) none) h)

    -- the answer of a solved run stands in states of which P holds
    pub answered : P (replicate (length breaks) none) → {a : Statelet} {p : ℕ} → optimize_of measure breaks penalty ≡ solved a p → Stands last a
    answered h {a} {p} e = by (subst (Ends last) e (all_ends h))
      where
        by : Ends last (solved a p) → Stands last a
        by (answers s) = s
