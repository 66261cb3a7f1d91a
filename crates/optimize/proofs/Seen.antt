-- The walk with a visitor ends with what the optimiser ends with, and three visitors gather the lookups that fell, the trace and the first score stored at the
-- last break: the statements of specs/Seen. Assumes nothing.
use Rattle.std.specs.Prelude.{Option, Some, None}
use Prim.Native.Nat.{ℕ, ◌+◌, ◌≤◌, ◌<◌}
use native.Mathlib.Nat.{add_assoc, zero-add}
use native.Mathlib.Omega.{arith}
use mathlib.Core.Bool.{Bool, true, false}
use mathlib.Core.List.{List, [], ◌∷◌, ◌++◌, append_assoc, append-nil}
use mathlib.Core.Path.{◌≡◌, refl, sym, ap, ◌∙◌}
use lib.Dec.{eqb}
use lib.ListN.{length, replicate, length-replicate}
use lib.Ieee.{Float, binary64, mul, lt}
use Rattle.float.specs.Numbers.{three, four}
use Rattle.geometry.specs.Geometry.{is_whole, line_quad, intersect_of}
use Rattle.geometry.specs.declared.Point.{Point}
use Rattle.breaks.specs.Breaks.{Row, break_at}
use Rattle.attempt.specs.Answers.{score_of, Best, none, best, ok_for_half, may_build}
use Rattle.optimize.specs.Optimize.{Measure, best_at, States, refused, states, xy, measured, try_quad, try_if, straight, bent_quad, bent_at, bent, then_bent, try_line_quad, onward, try_all, splits, search, Optimised, solved, chosen_if, go_on, splitted, tried, pairs_after_splits, last_break, optimize_of}
use Rattle.optimize.specs.Fallen.{Fallen, fell_if, fell_bent_at, fell_bent, fell_then_bent, fell_pair, fell_onward, fell_all, fell_next, fell_going_on, fell_after_splits, fell_after_first, fell_of}
use Rattle.optimize.specs.Trace.{Attempt, scored_if, scored, scored_where, bently_at, bently, bently_after, pair_tried, pair_after, all_tried, next_if, going_on, after_splits, after_first, trace_of, into_if, scores_into, now, later}
use Rattle.optimize.proofs.Good.{Good, nothing, stands, scores_append, Carried, kept, measured_carries, none_yet}
use Rattle.optimize.specs.Seen.{Try, Walk, walk, End, end, gathered, outcome, seen_if, bent_seen, then_seen, pair_seen, all_seen, end_if, go_on_seen, searched_seen, splitted_seen, tried_seen, walked, attempt_if, attempt_by, add_attempt, First, not_yet, score, standing, standing_in, note_first, head_of, WalkEnds, CountsFallen, ListsAttempts, NotesFirst}
use Rattle.measure.specs.declared.Measure as M
use Rattle.std.specs.Prelude.{Option, Some, None}

module _ (measure : Measure) (breaks : Row) (penalty : Float) where
  abbrev last : ℕ
  last = last_break measure breaks penalty

  abbrev line : ℕ → ℕ → Try
  line i j = record { from = i; to = j; bent = false; quad = line_quad (xy measure breaks penalty i) (xy measure breaks penalty j) }

  abbrev crossing : ℕ → ℕ → Option Point
  crossing i j = intersect_of (xy measure breaks penalty i) (break_at breaks i).dir (xy measure breaks penalty j) (break_at breaks j).dir

  -- ---- a visitor that adds something for each piece, after what was gathered
  module _ {M : Type 0} (ε : M) (◌·◌ : M → M → M) (no_more : (a : M) → a · ε ≡ a) (in_order : (a b c : M) → (a · b) · c ≡ a · (b · c)) (give : Try → List Best → M) where
    infixl 60 ◌·◌
    abbrev see : Try → List Best → M → M
    see t st a = a · give t st

    abbrev gave_if : Bool → Try → List Best → M
    gave_if true t st = give t st
    gave_if false t st = ε

    abbrev gave_bent : Option Point → ℕ → ℕ → List Best → M
    gave_bent None i j st = ε
    gave_bent (Some p) i j st =
        let q = bent_quad measure breaks penalty i j p in
        gave_if (ok_for_half (best_at st i) q) (record { from = i; to = j; bent = true; quad = q }) st

    abbrev gave_then : ℕ → ℕ → States → M
    gave_then i j refused = ε
    gave_then i j (states st) = gave_bent (crossing i j) i j st

    abbrev gave_onward : ℕ → ℕ → States → M
    gave_onward i j refused = ε
    gave_onward i j (states st) = gave_if (is_whole (xy measure breaks penalty i)) (line i j) st · gave_then i j (straight measure breaks penalty i j st)

    unfoldable gave_all : List (ℕ × ℕ) → States → M
    gave_all [] s = ε
    gave_all ((i, j) ∷ ps) s = gave_onward i j s · gave_all ps (onward measure breaks penalty i j s)

    abbrev gave_next : Bool → M → M
    gave_next true next = next
    gave_next false next = ε

    abbrev gave_going : Float → Best → M → M
    gave_going limit none next = ε
    gave_going limit (best a) next = gave_next (lt limit (score_of a)) next

    abbrev gave_splits : States → M
    gave_splits refused = ε
    gave_splits (states st) = gave_going (mul binary64 four penalty) (best_at st last) (gave_all (search last) (states st))

    abbrev gave_first : States → M
    gave_first refused = ε
    gave_first (states st) =
        gave_going (mul binary64 three penalty) (best_at st last) (gave_all (splits last) (states st) · gave_splits (try_all measure breaks penalty (splits last) (states st)))

    abbrev gave_run : M
    gave_run =
        let nothing = states (replicate (length breaks) none) in
        gave_onward 0 last nothing · gave_first (onward measure breaks penalty 0 last nothing)

    if_gave : (b : Bool) (t : Try) (a : M) (st : List Best) →
        seen_if measure breaks penalty see b t a st ≡ walk (a · gave_if b t st) (try_if measure breaks penalty b t.from t.to t.quad st)
    if_gave true t a st = refl
    if_gave false t a st = rw (no_more a) refl

    bent_gave : (x : Option Point) (i j : ℕ) (a : M) (st : List Best) → bent_seen measure breaks penalty see x i j a st ≡ walk (a · gave_bent x i j st) (bent_at measure breaks penalty x i j st)
    bent_gave None i j a st = rw (no_more a) refl
    bent_gave (Some p) i j a st =
        let q = bent_quad measure breaks penalty i j p in
        if_gave (ok_for_half (best_at st i) q) (record { from = i; to = j; bent = true; quad = q }) a st

    then_gave : (i j : ℕ) (a : M) (s : States) → then_seen measure breaks penalty see i j (walk a s) ≡ walk (a · gave_then i j s) (then_bent measure breaks penalty i j s)
    unfolding bent
    then_gave i j a refused = rw (no_more a) refl
    then_gave i j a (states st) = bent_gave (crossing i j) i j a st

    pair_gave : (i j : ℕ) (a : M) (s : States) → pair_seen measure breaks penalty see i j (walk a s) ≡ walk (a · gave_onward i j s) (onward measure breaks penalty i j s)
    unfolding pair_seen try_line_quad
    pair_gave i j a refused = rw (no_more a) refl
    pair_gave i j a (states st) =
        ap (then_seen measure breaks penalty see i j) (if_gave (is_whole (xy measure breaks penalty i)) (line i j) a st)
        ∙ then_gave i j _ (straight measure breaks penalty i j st)
        ∙ ap (λ (m : M). walk m (then_bent measure breaks penalty i j (straight measure breaks penalty i j st))) (in_order a _ _)

    all_gave : (ps : List (ℕ × ℕ)) (a : M) (s : States) → all_seen measure breaks penalty see ps (walk a s) ≡ walk (a · gave_all ps s) (try_all measure breaks penalty ps s)
    unfolding all_seen gave_all try_all
    all_gave [] a s = rw (no_more a) refl
    all_gave ((i, j) ∷ ps) a s =
        let next = onward measure breaks penalty i j s in
        ap (all_seen measure breaks penalty see ps) (pair_gave i j a s) ∙ all_gave ps _ next ∙ ap (λ (m : M). walk m (try_all measure breaks penalty ps next)) (in_order a _ _)

    go_gave : (limit : Float) (pairs : ℕ) (x : Best) (a m : M) (o : Optimised) →
        go_on_seen measure breaks penalty see limit pairs x a (end (a · m) o) ≡ end (a · gave_going limit x m) (go_on measure breaks penalty limit pairs x o)
    go_gave limit pairs none a m o = rw (no_more a) refl
    go_gave limit pairs (best b) a m o = by (lt limit (score_of b))
      where
        by : (above : Bool) → end_if measure breaks penalty see above (end (a · m) o) (end a (solved b pairs)) ≡ end (a · gave_next above m) (chosen_if measure breaks penalty above o (solved b pairs))
        by true = refl
        by false = rw (no_more a) refl

    splits_gave : (a : M) (s : States) → splitted_seen measure breaks penalty see (walk a s) ≡ end (a · gave_splits s) (splitted measure breaks penalty s)
    splits_gave a refused = rw (no_more a) refl
    splits_gave a (states st) =
        ap (λ (w : Walk M). go_on_seen measure breaks penalty see (mul binary64 four penalty) (pairs_after_splits measure breaks penalty) (best_at st last) a (searched_seen measure breaks penalty see w))
        (all_gave (search last) a (states st))
        ∙ go_gave _ _ (best_at st last) a _ _

    first_gave : (a : M) (s : States) → tried_seen measure breaks penalty see (walk a s) ≡ end (a · gave_first s) (tried measure breaks penalty s)
    first_gave a refused = rw (no_more a) refl
    first_gave a (states st) =
        let after = try_all measure breaks penalty (splits last) (states st) in
        ap (λ (w : Walk M). go_on_seen measure breaks penalty see (mul binary64 three penalty) 1 (best_at st last) a (splitted_seen measure breaks penalty see w)) (all_gave (splits last) a (states st))
        ∙ ap (go_on_seen measure breaks penalty see (mul binary64 three penalty) 1 (best_at st last) a)
        (splits_gave _ after ∙ ap (λ (m : M). end m (splitted measure breaks penalty after)) (in_order a _ _))
        ∙ go_gave _ _ (best_at st last) a _ _

    run_gave : (a : M) → walked measure breaks penalty see a ≡ end (a · gave_run) (optimize_of measure breaks penalty)
    unfolding walked optimize_of
    run_gave a =
        let nothing = states (replicate (length breaks) none) in
        let s = onward measure breaks penalty 0 last nothing in
        ap (tried_seen measure breaks penalty see) (pair_gave 0 last a nothing) ∙ first_gave _ s ∙ ap (λ (m : M). end m (tried measure breaks penalty s)) (in_order a _ _)

  -- ---- two visitors of one walk
  module _ {A B : Type 0} (see : Try → List Best → A → A) (look : Try → List Best → B → B) (Q : A → B → Type 0) (R : A → B → List Best → Type 0) where
    pub data Steps (a : A) (b : B) : States → Type 0 where
      stops : Q a b → Steps a b refused
      goes : {st : List Best} → R a b st → Steps a b (states st)

    data Both : Walk A → Walk B → Type 0 where
      both : {a : A} {b : B} {s : States} → Steps a b s → Both (walk a s) (walk b s)

    pub data Alike : End A → End B → Type 0 where
      alike : {a : A} {b : B} {o : Optimised} → Q a b → Alike (end a o) (end b o)

    module _ (ends : (a : A) (b : B) (st : List Best) → R a b st → Q a b)
        (keeps : (t : Try) (a : A) (b : B) (st : List Best) → R a b st → Steps (see t st a) (look t st b) (try_quad measure breaks penalty t.from t.to t.quad st)) where
      if_both : (c : Bool) (t : Try) (a : A) (b : B) (st : List Best) → R a b st → Both (seen_if measure breaks penalty see c t a st) (seen_if measure breaks penalty look c t b st)
      if_both true t a b st r = both (keeps t a b st r)
      if_both false t a b st r = both (goes r)

      bent_both : (x : Option Point) (i j : ℕ) (a : A) (b : B) (st : List Best) → R a b st → Both (bent_seen measure breaks penalty see x i j a st) (bent_seen measure breaks penalty look x i j b st)
      bent_both None i j a b st r = both (goes r)
      bent_both (Some p) i j a b st r =
          let q = bent_quad measure breaks penalty i j p in
          if_both (ok_for_half (best_at st i) q) (record { from = i; to = j; bent = true; quad = q }) a b st r

      then_both : (i j : ℕ) {v : Walk A} {w : Walk B} → Both v w → Both (then_seen measure breaks penalty see i j v) (then_seen measure breaks penalty look i j w)
      then_both i j (both (stops q)) = both (stops q)
      then_both i j (both {a} {b} (goes {st} r)) = bent_both (crossing i j) i j a b st r

      pair_both : (i j : ℕ) {v : Walk A} {w : Walk B} → Both v w → Both (pair_seen measure breaks penalty see i j v) (pair_seen measure breaks penalty look i j w)
      unfolding pair_seen
      pair_both i j (both (stops q)) = both (stops q)
      pair_both i j (both {a} {b} (goes {st} r)) = then_both i j (if_both (is_whole (xy measure breaks penalty i)) (line i j) a b st r)

      all_both : (ps : List (ℕ × ℕ)) {v : Walk A} {w : Walk B} → Both v w → Both (all_seen measure breaks penalty see ps v) (all_seen measure breaks penalty look ps w)
      unfolding all_seen
      all_both [] h = h
      all_both ((i, j) ∷ ps) h = all_both ps (pair_both i j h)

      go_both : (limit : Float) (pairs : ℕ) (x : Best) (a : A) (b : B) {v : End A} {w : End B} → Q a b → Alike v w →
          Alike (go_on_seen measure breaks penalty see limit pairs x a v) (go_on_seen measure breaks penalty look limit pairs x b w)
      go_both limit pairs none a b q h = alike q
      go_both limit pairs (best c) a b {v} {w} q h = by (lt limit (score_of c))
        where
          by : (above : Bool) → Alike (end_if measure breaks penalty see above v (end a (solved c pairs))) (end_if measure breaks penalty look above w (end b (solved c pairs)))
          by true = h
          by false = alike q

      search_both : {v : Walk A} {w : Walk B} → Both v w → Alike (searched_seen measure breaks penalty see v) (searched_seen measure breaks penalty look w)
      search_both (both (stops q)) = alike q
      search_both (both {a} {b} (goes {st} r)) = alike (ends a b st r)

      splits_both : {v : Walk A} {w : Walk B} → Both v w → Alike (splitted_seen measure breaks penalty see v) (splitted_seen measure breaks penalty look w)
      splits_both (both (stops q)) = alike q
      splits_both (both {a} {b} (goes {st} r)) = go_both _ _ (best_at st last) a b (ends a b st r) (search_both (all_both (search last) (both (goes r))))

      first_both : {v : Walk A} {w : Walk B} → Both v w → Alike (tried_seen measure breaks penalty see v) (tried_seen measure breaks penalty look w)
      first_both (both (stops q)) = alike q
      first_both (both {a} {b} (goes {st} r)) = go_both _ _ (best_at st last) a b (ends a b st r) (splits_both (all_both (splits last) (both (goes r))))

      run_both : (a : A) (b : B) → R a b (replicate (length breaks) none) → Alike (walked measure breaks penalty see a) (walked measure breaks penalty look b)
      unfolding walked
      run_both a b r = first_both (pair_both 0 last (both (goes r)))

-- ---- the statements

-- nothing is gathered
abbrev pass : Try → List Best → ℕ → ℕ
pass t st n = n + 0

add_none : (n : ℕ) → n + 0 ≡ n
add_none n = omega arith

module _ (measure : Measure) (breaks : Row) (penalty : Float) {A : Type 0} (see : Try → List Best → A → A) where
  abbrev Always : A → ℕ → Type 0
  Always a n = Unit

  abbrev Any : A → ℕ → List Best → Type 0
  Any a n st = Unit

  any_steps : (a : A) (n : ℕ) (s : States) → Steps measure breaks penalty see pass Always Any a n s
  any_steps a n refused = stops tt
  any_steps a n (states st) = goes tt

  one_outcome : {v : End A} {w : End ℕ} → Alike measure breaks penalty see pass Always Any v w → outcome v ≡ outcome w
  one_outcome (alike q) = refl

pub walk_ends : WalkEnds
walk_ends measure breaks penalty A see a =
    one_outcome measure breaks penalty see
    (run_both measure breaks penalty see pass (Always measure breaks penalty see) (Any measure breaks penalty see) (λ a n st r. tt) (λ t a n st r. any_steps measure breaks penalty see _ _ _) a 0 tt)
    ∙ ap outcome (run_gave measure breaks penalty 0 ◌+◌ add_none add_assoc (λ t st. 0) 0)

-- ---- what falls
module _ (measure : Measure) (fallen : Fallen) (breaks : Row) (penalty : Float) where
  abbrev given : Try → List Best → ℕ
  given t st = fallen t.from t.to t.quad

  if_fell : (b : Bool) (t : Try) (st : List Best) → gave_if measure breaks penalty 0 ◌+◌ add_none add_assoc given b t st ≡ fell_if measure fallen breaks penalty b t.from t.to t.quad
  if_fell true t st = refl
  if_fell false t st = refl

  bent_fell : (x : Option Point) (i j : ℕ) (st : List Best) → gave_bent measure breaks penalty 0 ◌+◌ add_none add_assoc given x i j st ≡ fell_bent_at measure fallen breaks penalty x i j st
  bent_fell None i j st = refl
  bent_fell (Some p) i j st = let q = bent_quad measure breaks penalty i j p in if_fell (ok_for_half (best_at st i) q) (record { from = i; to = j; bent = true; quad = q }) st

  then_fell : (i j : ℕ) (s : States) → gave_then measure breaks penalty 0 ◌+◌ add_none add_assoc given i j s ≡ fell_then_bent measure fallen breaks penalty i j s
  unfolding fell_bent
  then_fell i j refused = refl
  then_fell i j (states st) = bent_fell (crossing measure breaks penalty i j) i j st

  onward_fell : (i j : ℕ) (s : States) → gave_onward measure breaks penalty 0 ◌+◌ add_none add_assoc given i j s ≡ fell_onward measure fallen breaks penalty i j s
  unfolding fell_pair
  onward_fell i j refused = refl
  onward_fell i j (states st) =
      rw (if_fell (is_whole (xy measure breaks penalty i)) (line measure breaks penalty i j) st, then_fell i j (straight measure breaks penalty i j st)) refl

  all_fell : (ps : List (ℕ × ℕ)) (s : States) → gave_all measure breaks penalty 0 ◌+◌ add_none add_assoc given ps s ≡ fell_all measure fallen breaks penalty ps s
  unfolding gave_all fell_all
  all_fell [] s = refl
  all_fell ((i, j) ∷ ps) s = rw (onward_fell i j s, all_fell ps (onward measure breaks penalty i j s)) refl

  next_fell : (above : Bool) (next : ℕ) → gave_next measure breaks penalty 0 ◌+◌ add_none add_assoc given above next ≡ fell_next measure fallen breaks penalty above next
  next_fell true next = refl
  next_fell false next = refl

  going_fell : (limit : Float) (x : Best) (next : ℕ) → gave_going measure breaks penalty 0 ◌+◌ add_none add_assoc given limit x next ≡ fell_going_on measure fallen breaks penalty limit x next
  going_fell limit none next = refl
  going_fell limit (best b) next = next_fell (lt limit (score_of b)) next

  splits_fell : (s : States) → gave_splits measure breaks penalty 0 ◌+◌ add_none add_assoc given s ≡ fell_after_splits measure fallen breaks penalty s
  splits_fell refused = refl
  splits_fell (states st) = rw (all_fell (search (last_break measure breaks penalty)) (states st)) (going_fell _ (best_at st (last_break measure breaks penalty)) _)

  first_fell : (s : States) → gave_first measure breaks penalty 0 ◌+◌ add_none add_assoc given s ≡ fell_after_first measure fallen breaks penalty s
  first_fell refused = refl
  first_fell (states st) =
      rw (all_fell (splits (last_break measure breaks penalty)) (states st), splits_fell (try_all measure breaks penalty (splits (last_break measure breaks penalty)) (states st)))
      (going_fell _ (best_at st (last_break measure breaks penalty)) _)

  run_fell : gave_run measure breaks penalty 0 ◌+◌ add_none add_assoc given ≡ fell_of measure fallen breaks penalty
  unfolding fell_of try_line_quad
  run_fell =
      let nothing_yet = states (replicate (length breaks) none) in
      let s = onward measure breaks penalty 0 (last_break measure breaks penalty) nothing_yet in
      rw (onward_fell 0 (last_break measure breaks penalty) nothing_yet, first_fell s) refl

pub counts_fallen : CountsFallen
counts_fallen measure fallen breaks penalty =
    ap gathered (run_gave measure breaks penalty 0 ◌+◌ add_none add_assoc (given measure fallen breaks penalty) 0) ∙ zero-add _ ∙ run_fell measure fallen breaks penalty

-- ---- what is listed
module _ (measure : Measure) (breaks : Row) (penalty : Float) where
  may_listed : (may : Bool) (a : Attempt) → attempt_if may a ≡ scored_if measure breaks penalty may a
  may_listed true a = refl
  may_listed false a = refl

  one_listed : (w : Option M.Measure) (t : Try) (st : List Best) → attempt_by w penalty t st ≡ scored measure breaks penalty w t.bent t.from t.to t.quad st
  one_listed None t st = refl
  one_listed (Some m) t st = may_listed (may_build t.from (best_at st t.from)) _

module _ (measure : Measure) (breaks : Row) (penalty : Float) where
  abbrev listed : Try → List Best → List Attempt
  listed t st = attempt_by (measure t.from t.to t.quad) penalty t st

  if_listed : (b : Bool) (t : Try) (st : List Best) →
      gave_if measure breaks penalty [] ◌++◌ append-nil append_assoc listed b t st ≡ scored_where measure breaks penalty b t.bent t.from t.to t.quad st
  if_listed true t st = one_listed measure breaks penalty (measure t.from t.to t.quad) t st
  if_listed false t st = refl

  bent_listed : (x : Option Point) (i j : ℕ) (st : List Best) → gave_bent measure breaks penalty [] ◌++◌ append-nil append_assoc listed x i j st ≡ bently_at measure breaks penalty x i j st
  bent_listed None i j st = refl
  bent_listed (Some p) i j st = let q = bent_quad measure breaks penalty i j p in if_listed (ok_for_half (best_at st i) q) (record { from = i; to = j; bent = true; quad = q }) st

  then_listed : (i j : ℕ) (s : States) → gave_then measure breaks penalty [] ◌++◌ append-nil append_assoc listed i j s ≡ bently_after measure breaks penalty i j s
  unfolding bently
  then_listed i j refused = refl
  then_listed i j (states st) = bent_listed (crossing measure breaks penalty i j) i j st

  onward_listed : (i j : ℕ) (s : States) → gave_onward measure breaks penalty [] ◌++◌ append-nil append_assoc listed i j s ≡ pair_after measure breaks penalty i j s
  unfolding pair_tried
  onward_listed i j refused = refl
  onward_listed i j (states st) =
      rw (if_listed (is_whole (xy measure breaks penalty i)) (line measure breaks penalty i j) st, then_listed i j (straight measure breaks penalty i j st)) refl

  all_listed : (ps : List (ℕ × ℕ)) (s : States) → gave_all measure breaks penalty [] ◌++◌ append-nil append_assoc listed ps s ≡ all_tried measure breaks penalty ps s
  unfolding gave_all all_tried
  all_listed [] s = refl
  all_listed ((i, j) ∷ ps) s = rw (onward_listed i j s, all_listed ps (onward measure breaks penalty i j s)) refl

  next_listed : (above : Bool) (next : List Attempt) → gave_next measure breaks penalty [] ◌++◌ append-nil append_assoc listed above next ≡ next_if measure breaks penalty above next
  next_listed true next = refl
  next_listed false next = refl

  going_listed : (limit : Float) (x : Best) (next : List Attempt) → gave_going measure breaks penalty [] ◌++◌ append-nil append_assoc listed limit x next ≡ going_on measure breaks penalty limit x next
  going_listed limit none next = refl
  going_listed limit (best b) next = next_listed (lt limit (score_of b)) next

  splits_listed : (s : States) → gave_splits measure breaks penalty [] ◌++◌ append-nil append_assoc listed s ≡ after_splits measure breaks penalty s
  splits_listed refused = refl
  splits_listed (states st) = rw (all_listed (search (last_break measure breaks penalty)) (states st)) (going_listed _ (best_at st (last_break measure breaks penalty)) _)

  first_listed : (s : States) → gave_first measure breaks penalty [] ◌++◌ append-nil append_assoc listed s ≡ after_first measure breaks penalty s
  first_listed refused = refl
  first_listed (states st) =
      rw (all_listed (splits (last_break measure breaks penalty)) (states st), splits_listed (try_all measure breaks penalty (splits (last_break measure breaks penalty)) (states st)))
      (going_listed _ (best_at st (last_break measure breaks penalty)) _)

  run_listed : gave_run measure breaks penalty [] ◌++◌ append-nil append_assoc listed ≡ trace_of measure breaks penalty
  unfolding trace_of try_line_quad
  run_listed =
      let nothing_yet = states (replicate (length breaks) none) in
      let s = onward measure breaks penalty 0 (last_break measure breaks penalty) nothing_yet in
      rw (onward_listed 0 (last_break measure breaks penalty) nothing_yet, first_listed s) refl

pub lists_attempts : ListsAttempts
lists_attempts measure breaks penalty =
    ap gathered (run_gave measure breaks penalty [] ◌++◌ append-nil append_assoc (listed measure breaks penalty) []) ∙ run_listed measure breaks penalty

-- ---- the first score stored at the last break
head_more : (ss more : List Float) {s : Float} → score s ≡ head_of ss → score s ≡ head_of (ss ++ more)
head_more [] more e = absurd cc
head_more (t ∷ ss) more e = e

none_so_far : (ss more : List Float) → not_yet ≡ head_of ss → ss ++ more ≡ more
none_so_far [] more e = refl
none_so_far (t ∷ ss) more e = absurd cc

-- what stands after one attempt into a break has its score
one_score : {ss : List Float} {x : Best} → Good ss x → length ss ≤ 1 → standing x ≡ head_of ss
one_score nothing h = refl
one_score (stands {s} {ss = []} f now) h = refl
one_score (stands {s} {ss = t ∷ ss} f i) h = absurd (omega arith)
one_score (stands {s = s} {ss = []} {a = a} f (later x6)) h = elim x6 [ ]

module _ (measure : Measure) (breaks : Row) (penalty : Float) (some : 0 < length breaks) where
  abbrev end_break : ℕ
  end_break = last_break measure breaks penalty

  inside : end_break < length breaks
  inside = omega arith

  abbrev scores_of : List Attempt → List Float
  scores_of l = scores_into end_break l

  abbrev Noted : First → List Attempt → Type 0
  Noted o l = o ≡ head_of (scores_of l)

  record Noting (o : First) (l : List Attempt) (st : List Best) : Type 0 where
    long : length st ≡ length breaks
    good : Good (scores_of l) (best_at st end_break)
    noted : Noted o l

  abbrev note : First → States → First
  note not_yet s = standing_in end_break s
  note (score x) s = score x

  few_scores : (may : Bool) (a : Attempt) → length (scores_of (scored_if measure breaks penalty may a)) ≤ 1
  unfolding scores_into
  few_scores false a = omega arith
  few_scores true a = by (eqb a.to end_break)
    where
      by : (t : Bool) → length (into_if t a.score []) ≤ 1
      by true = omega arith
      by false = omega arith

  abbrev Next : First → List Attempt → States → Type 0
  Next = Steps measure breaks penalty (note_first measure breaks penalty end_break) (add_attempt measure penalty) Noted Noting

  refused_same : (o : First) → note o refused ≡ o
  refused_same not_yet = refl
  refused_same (score x) = refl

  noted_next : (o : First) (l k : List Attempt) (st : List Best) → Noted o l → Good (scores_of l ++ scores_of k) (best_at st end_break) → length (scores_of k) ≤ 1 →
      note o (states st) ≡ head_of (scores_of l ++ scores_of k)
  noted_next not_yet l k st e g few =
      let first = none_so_far (scores_of l) (scores_of k) e in
      rw first (one_score (rw first at g) few)
  noted_next (score x) l k st e g few = head_more (scores_of l) (scores_of k) e

  attempt_noted : (w : Option M.Measure) (t : Try) (o : First) (l : List Attempt) (st : List Best) → Noting o l st →
      let s = measured measure breaks penalty w t.from t.to t.quad st in
      Next (note o s) (l ++ scored measure breaks penalty w t.bent t.from t.to t.quad st) s
  attempt_noted None t o l st r = stops (refused_same o ∙ r.noted ∙ ap (λ (k : List Attempt). head_of (scores_of k)) (sym (append-nil l)))
  attempt_noted (Some m) t o l st r =
      by (measured_carries measure breaks penalty (length breaks) end_break inside (Some m) t.bent t.from t.to t.quad st r.long r.good)
    where
      k : List Attempt
      k = scored measure breaks penalty (Some m) t.bent t.from t.to t.quad st

      by : {st' : List Best} → Carried (length breaks) end_break (scores_of l ++ scores_of k) (states st') → Next (note o (states st')) (l ++ k) (states st')
      by {st'} (kept long g) = goes {st = st'} (record {
        long = long;
        good = rw (scores_append end_break l k) g;
        noted = rw (scores_append end_break l k) (noted_next o l k st' r.noted g (few_scores (may_build t.from (best_at st t.from)) _));
      })

  keeps_noting : (t : Try) (o : First) (l : List Attempt) (st : List Best) → Noting o l st →
      Next (note_first measure breaks penalty end_break t st o) (add_attempt measure penalty t st l) (try_quad measure breaks penalty t.from t.to t.quad st)
  unfolding try_quad
  keeps_noting t not_yet l st r =
      let w = measure t.from t.to t.quad in
      rw (one_listed measure breaks penalty w t st) (attempt_noted w t not_yet l st r)
  keeps_noting t (score x) l st r =
      let w = measure t.from t.to t.quad in
      rw (one_listed measure breaks penalty w t st) (attempt_noted w t (score x) l st r)

  at_first : Noting not_yet [] (replicate (length breaks) none)
  unfolding scores_into
  at_first = record { long = length-replicate (length breaks) none; good = rw (none_yet measure breaks penalty some) nothing; noted = refl }

  one_head : {v : End First} {w : End (List Attempt)} →
      Alike measure breaks penalty (note_first measure breaks penalty end_break) (add_attempt measure penalty) Noted Noting v w → gathered v ≡ head_of (scores_of (gathered w))
  one_head (alike q) = q

pub notes_first : NotesFirst
notes_first measure breaks penalty some =
    one_head measure breaks penalty some
    (run_both measure breaks penalty (note_first measure breaks penalty (last_break measure breaks penalty)) (add_attempt measure penalty)
    (Noted measure breaks penalty some) (Noting measure breaks penalty some) (λ o l st r. r.noted) (keeps_noting measure breaks penalty some) not_yet [] (at_first measure breaks penalty some))
    ∙ ap (λ (l : List Attempt). head_of (scores_into (last_break measure breaks penalty) l)) (lists_attempts measure breaks penalty)
