-- How good the returned answer is: along the attempts, what stands at a break has a score that is at most each score so far, if the first was no NaN.
-- Assumes nothing.
use Rattle.std.specs.Prelude.{Option, Some, None}
use Prim.Native.Nat.{ℕ, ◌<◌}
use native.Mathlib.Decide.{ℕ_discrete}
use native.Mathlib.Omega.{arith}
use mathlib.Core.Bool.{Bool, true, false}
use mathlib.Core.List.{List, [], ◌∷◌, ◌++◌, append_assoc, append-nil}
use mathlib.Core.Path.{◌≡◌, refl, sym, ap, ◌∙◌, subst}
use borrow.Author.Tests.{eq-eqb, ne_eqb}
use lib.Dec.{T, eqb}
use lib.ListN.{length, get_or, set, replicate, length-set, length-replicate, get_or-replicate}
use lib.Seq.{get_or-set_same, get_or-set_other}
use lib.Ieee.{Float, nan, lt, le, is_nan}
use Rattle.geometry.specs.Geometry.{is_whole, intersect_of}
use Rattle.geometry.specs.declared.Point.{Point}
use Rattle.geometry.specs.declared.Quad.{Quad}
use Rattle.breaks.specs.Breaks.{Row, break_at}
use Rattle.attempt.specs.Answers.{Leg, Statelet, score_of, Best, none, best, ok_for_half, may_build, total_of, built_on, is_less, replaced_if, combined_if, combined}
use Rattle.optimize.specs.Optimize.{Measure, best_at, States, refused, states, xy, measured, try_quad, try_if, straight, bent_quad, bent_at, bent, then_bent, try_line_quad, onward, try_all, splits, search, Optimised, refused8, unchanged, solved, ended, chosen_if, go_on, searched, splitted, tried, last_break, optimize_of}
use Rattle.optimize.specs.Trace.{Attempt, scored_if, scored, scored_where, straightly, bently_at, bently, bently_after, pair_tried, pair_after, all_tried, next_if, going_on, after_splits, after_first, trace_of, into_if, scores_into, last_scores, AtMost, no_more, and_also, Among, now, later, Least, HowGood}
use Rattle.optimize.proofs.Compare.{le_self, le_through, lt_le, lt_number, not_lt_le}
use Rattle.measure.specs.declared.Measure as M
use Rattle.std.specs.Prelude.{Option, Some, None}

-- ---- what stands at a break, after attempts into it that got these scores

pub data Good : List Float → Best → Type 0 where
  nothing : Good [] none
  stands : {s : Float} {ss : List Float} {a : Statelet} → (is_nan s ≡ false → (is_nan (score_of a) ≡ false) × AtMost (score_of a) (s ∷ ss)) → Among (score_of a) (s ∷ ss) → Good (s ∷ ss) (best a)

-- a lower score
lower : {s t : Float} {ss : List Float} → T (le s t) → AtMost t ss → AtMost s ss
lower h no_more = no_more
lower {s} {t} h (and_also {t = u} k more) = and_also (λ n. le_through s t u h (k n)) (lower h more)

one_more : {s : Float} {ss : List Float} (t : Float) → AtMost s ss → (is_nan t ≡ false → T (le s t)) → AtMost s (ss ++ (t ∷ []))
one_more t no_more h = and_also h no_more
one_more t (and_also k more) h = and_also k (one_more t more h)

newest : (t : Float) (ss : List Float) → Among t (ss ++ (t ∷ []))
newest t [] = now
newest t (s ∷ ss) = later (newest t ss)

still : {s : Float} {ss : List Float} (t : Float) → Among s ss → Among s (ss ++ (t ∷ []))
still t now = now
still t (later h) = later (still t h)

built_score : (previous : Best) (p : Leg) (s : Float) → score_of (built_on previous p s) ≡ s
built_score none p s = refl
built_score (best a) p s = refl

-- one attempt more, with the score t
module _ (previous : Best) (p : Leg) (t : Float) where
  first_good : Good (t ∷ []) (best (built_on previous p t))
  first_good = stands {s = t} {ss = []} {a = built_on previous p t} (λ n. rw (built_score previous p t) (n, and_also (λ m. le_self t n) no_more)) (rw (built_score previous p t) now)

  replaced_good : (s : Float) (ss : List Float) (a : Statelet) (less : Bool) → (is_nan s ≡ false → (is_nan (score_of a) ≡ false) × AtMost (score_of a) (s ∷ ss)) → Among (score_of a) (s ∷ ss) → lt t (score_of a) ≡ less →
      Good (s ∷ (ss ++ (t ∷ []))) (replaced_if less (best a) (built_on previous p t))
  replaced_good s ss a true f i e =
      stands {s = s} {ss = ss ++ (t ∷ [])} {a = built_on previous p t} (λ n. rw (built_score previous p t) (lt_number t (score_of a) e, one_more t (lower (lt_le t (score_of a) e) (f n).1) (λ m. le_self t m)))
      (rw (built_score previous p t) (newest t (s ∷ ss)))
  replaced_good s ss a false f i e = stands {ss = ss ++ (t ∷ [])} (λ n. ((f n).0, one_more t (f n).1 (λ m. not_lt_le t (score_of a) m (f n).0 e))) (still t i)

  next_good : {ss : List Float} {old : Best} → Good ss old → Good (ss ++ (t ∷ [])) (replaced_if (is_less t old) old (built_on previous p t))
  next_good nothing = first_good
  next_good (stands {s} {ss} {a} f i) = replaced_good s ss a (lt t (score_of a)) f i refl

-- ---- the scores of attempts

pub scores_append : (b : ℕ) (l k : List Attempt) → scores_into b (l ++ k) ≡ scores_into b l ++ scores_into b k
unfolding scores_into
scores_append b [] k = refl
scores_append b (a ∷ l) k = by (scores_append b l k) (eqb a.to b)
  where
    by : scores_into b (l ++ k) ≡ scores_into b l ++ scores_into b k → (t : Bool) → into_if t a.score (scores_into b (l ++ k)) ≡ into_if t a.score (scores_into b l) ++ scores_into b k
    by rest true = ap (λ (ss : List Float). a.score ∷ ss) rest
    by rest false = rest

no_scores : (b : ℕ) → scores_into b [] ≡ []
unfolding scores_into
no_scores b = refl

-- ---- the states of n breaks, with what stands at break b

pub data Carried (n b : ℕ) (ss : List Float) : States → Type 0 where
  lost : Carried n b ss refused
  kept : {st : List Best} → length st ≡ n → Good ss (best_at st b) → Carried n b ss (states st)

module _ (measure : Measure) (breaks : Row) (penalty : Float) (n b : ℕ) (inside : b < n) where
  -- the scores after those so far
  abbrev after : List Float → List Attempt → List Float
  after ss l = ss ++ scores_into b l

  after_none : (ss : List Float) → after ss [] ≡ ss
  after_none ss = ap (λ (r : List Float). ss ++ r) (no_scores b) ∙ append-nil ss

  after_both : (ss : List Float) (l k : List Attempt) → after (after ss l) k ≡ after ss (l ++ k)
  after_both ss l k = append_assoc ss (scores_into b l) (scores_into b k) ∙ ap (λ (r : List Float). ss ++ r) (sym (scores_append b l k))

  -- ---- one attempt

  here : (may : Bool) {ss : List Float} {old : Best} (previous : Best) (p : Leg) (a : Attempt) → a.to ≡ b → Good ss old →
      Good (after ss (scored_if measure breaks penalty may a)) (combined_if may old previous p a.score)
  unfolding scores_into
  here true previous p a e g = rw (eq-eqb a.to b e) (next_good previous p a.score g)
  here false {ss} previous p a e g = rw (append-nil ss) g

  away : (may : Bool) (ss : List Float) (a : Attempt) → (a.to ≡ b → ⊥) → after ss (scored_if measure breaks penalty may a) ≡ ss
  unfolding scores_into
  away true ss a ne = rw (ne_eqb a.to b ne) (append-nil ss)
  away false ss a ne = append-nil ss

  pub measured_carries : (r : Option M.Measure) (bend : Bool) (i j : ℕ) (q : Quad) (st : List Best) {ss : List Float} → length st ≡ n → Good ss (best_at st b) →
      Carried n b (after ss (scored measure breaks penalty r bend i j q st)) (measured measure breaks penalty r i j q st)
  unfolding combined
  measured_carries None bend i j q st long g = lost
  measured_carries (Some m) bend i j q st {ss} long g =
      kept {st = set st j new} (length-set st j new ∙ long) (by (ℕ_discrete j b))
    where
      a : Attempt
      a = record { from = i; to = j; bent = bend; score = total_of (best_at st i) q m.error penalty }

      p : Leg
      p = record { from = i; to = j; quad = q }

      new : Best
      new = combined (best_at st j) (best_at st i) p m.error penalty

      stored : (e : j ≡ b) → best_at (set st j new) b ≡ new
      stored e = subst (λ (k : ℕ). best_at (set st j new) k ≡ new) e (get_or-set_same st j new none (omega (arith, e, long)))

      by : Dec (j ≡ b) → Good (after ss (scored measure breaks penalty (Some m) bend i j q st)) (best_at (set st j new) b)
      by (yes e) = rw (stored e) (here (may_build i (best_at st i)) (best_at st i) p a e (subst (λ (k : ℕ). Good ss (best_at st k)) (sym e) g))
      by (no e) = rw (away (may_build i (best_at st i)) ss a e, get_or-set_other st j b new none (λ h. e (sym h))) g

  try_carries : (may bend : Bool) (i j : ℕ) (q : Quad) (st : List Best) {ss : List Float} → length st ≡ n → Good ss (best_at st b) →
      Carried n b (after ss (scored_where measure breaks penalty may bend i j q st)) (try_if measure breaks penalty may i j q st)
  unfolding try_quad
  try_carries true bend i j q st long g = measured_carries (measure i j q) bend i j q st long g
  try_carries false bend i j q st {ss} long g = rw (after_none ss) (kept {st = st} long g)

  -- ---- one pair

  bent_carries : (x : Option Point) (i j : ℕ) (st : List Best) {ss : List Float} → length st ≡ n → Good ss (best_at st b) →
      Carried n b (after ss (bently_at measure breaks penalty x i j st)) (bent_at measure breaks penalty x i j st)
  bent_carries None i j st {ss} long g = rw (after_none ss) (kept {st = st} long g)
  bent_carries (Some p) i j st long g = let q = bent_quad measure breaks penalty i j p in try_carries (ok_for_half (best_at st i) q) true i j q st long g

  then_carries : (i j : ℕ) (s : States) {ss : List Float} → Carried n b ss s →
      Carried n b (after ss (bently_after measure breaks penalty i j s)) (then_bent measure breaks penalty i j s)
  unfolding bently bent
  then_carries i j refused c = lost
  then_carries i j (states st) (kept long g) =
      bent_carries (intersect_of (xy measure breaks penalty i) (break_at breaks i).dir (xy measure breaks penalty j) (break_at breaks j).dir) i j st long g

  pub pair_carries : (i j : ℕ) (st : List Best) {ss : List Float} → length st ≡ n → Good ss (best_at st b) →
      Carried n b (after ss (pair_tried measure breaks penalty i j st)) (try_line_quad measure breaks penalty i j st)
  unfolding pair_tried try_line_quad
  pair_carries i j st {ss} long g =
      let s = straight measure breaks penalty i j st in
      let first = try_carries (is_whole (xy measure breaks penalty i)) false i j _ st long g in
      subst (λ (r : List Float). Carried n b r (then_bent measure breaks penalty i j s)) (after_both ss (straightly measure breaks penalty i j st) (bently_after measure breaks penalty i j s)) (then_carries i j s first)

  -- ---- many pairs

  onward_carries : (i j : ℕ) (s : States) {ss : List Float} → Carried n b ss s → Carried n b (after ss (pair_after measure breaks penalty i j s)) (onward measure breaks penalty i j s)
  onward_carries i j refused c = lost
  onward_carries i j (states st) (kept long g) = pair_carries i j st long g

  pub all_carries : (ps : List (ℕ × ℕ)) (s : States) {ss : List Float} → Carried n b ss s → Carried n b (after ss (all_tried measure breaks penalty ps s)) (try_all measure breaks penalty ps s)
  unfolding all_tried try_all
  all_carries [] s {ss} c = rw (after_none ss) c
  all_carries ((i, j) ∷ ps) s {ss} c =
      let next = onward measure breaks penalty i j s in
      subst (λ (r : List Float). Carried n b r (try_all measure breaks penalty ps next)) (after_both ss (pair_after measure breaks penalty i j s) (all_tried measure breaks penalty ps next))
      (all_carries ps next (onward_carries i j s c))

-- ---- the three phases

-- the answer is good for the scores
data Returns (ss : List Float) : Optimised → Type 0 where
  no_answer : Returns ss refused8
  none_stands : (p : ℕ) → Returns ss (unchanged p)
  returns : (a : Statelet) (p : ℕ) → Good ss (best a) → Returns ss (solved a p)

module _ (measure : Measure) (breaks : Row) (penalty : Float) (some : 0 < length breaks) where
  abbrev last : ℕ
  last = last_break measure breaks penalty

  inside : last < length breaks
  inside = omega arith

  abbrev so_far : List Float → List Attempt → List Float
  so_far ss l = ss ++ scores_into last l

  -- where the next phase is reached, its attempts follow
  goes_on : (limit : Float) (p : ℕ) (x : Best) (next : Optimised) (l : List Attempt) {ss : List Float} → Good ss x → Returns (so_far ss l) next →
      Returns (so_far ss (going_on measure breaks penalty limit x l)) (go_on measure breaks penalty limit p x next)
  goes_on limit p none next l g r = none_stands p
  goes_on limit p (best a) next l {ss} g r = chosen (lt limit (score_of a))
    where
      chosen : (above : Bool) → Returns (so_far ss (next_if measure breaks penalty above l)) (chosen_if measure breaks penalty above next (solved a p))
      chosen true = r
      chosen false = rw (after_none measure breaks penalty (length breaks) last inside ss) (returns a p g)

  end_returns : (p : ℕ) (x : Best) {ss : List Float} → Good ss x → Returns ss (ended measure breaks penalty p x)
  end_returns p none g = none_stands p
  end_returns p (best a) g = returns a p g

  search_returns : (s : States) {ss : List Float} → Carried (length breaks) last ss s → Returns ss (searched measure breaks penalty s)
  search_returns refused c = no_answer
  search_returns (states st) (kept long g) = end_returns _ (best_at st last) g

  splits_return : (s : States) {ss : List Float} → Carried (length breaks) last ss s → Returns (so_far ss (after_splits measure breaks penalty s)) (splitted measure breaks penalty s)
  splits_return refused c = no_answer
  splits_return (states st) (kept long g) =
      goes_on _ _ (best_at st last) _ _ g (search_returns _ (all_carries measure breaks penalty (length breaks) last inside (search last) (states st) (kept {st = st} long g)))

  first_returns : (s : States) {ss : List Float} → Carried (length breaks) last ss s → Returns (so_far ss (after_first measure breaks penalty s)) (tried measure breaks penalty s)
  first_returns refused c = no_answer
  first_returns (states st) {ss} (kept long g) =
      let carried = all_carries measure breaks penalty (length breaks) last inside (splits last) (states st) (kept {st = st} long g) in
      let next = try_all measure breaks penalty (splits last) (states st) in
      goes_on _ _ (best_at st last) _ _ g
      (subst (λ (r : List Float). Returns r (splitted measure breaks penalty next))
      (after_both measure breaks penalty (length breaks) last inside ss (all_tried measure breaks penalty (splits last) (states st)) (after_splits measure breaks penalty next)) (splits_return next carried))

  pub none_yet : best_at (replicate (length breaks) none) last ≡ none
  none_yet = get_or-replicate (length breaks) last none none inside

  all_return : Returns (last_scores measure breaks penalty) (optimize_of measure breaks penalty)
  unfolding trace_of optimize_of
  all_return =
      let nothing-stands = replicate (length breaks) none in
      let first = pair_carries measure breaks penalty (length breaks) last inside 0 last nothing-stands {ss = []} (length-replicate (length breaks) none) (rw none_yet nothing) in
      let s = try_line_quad measure breaks penalty 0 last nothing-stands in
      subst (λ (r : List Float). Returns r (tried measure breaks penalty s))
      (after_both measure breaks penalty (length breaks) last inside [] (pair_tried measure breaks penalty 0 last nothing-stands) (after_first measure breaks penalty s)) (first_returns s first)

returned : {ss : List Float} {a : Statelet} {p : ℕ} → Returns ss (solved a p) → Good ss (best a)
returned (returns a p g) = g

good_least : {ss : List Float} {a : Statelet} → Good ss (best a) → is_nan (get_or ss 0 nan) ≡ false → Least (score_of a) ss
good_least (stands f i) n = record { number = (f n).0; at_most = (f n).1; among = i }

pub how_good : HowGood
how_good measure breaks penalty a pairs some e n =
    good_least (returned (subst (Returns (last_scores measure breaks penalty)) e (all_return measure breaks penalty some))) n
