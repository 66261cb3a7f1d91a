-- Why a search that starts from a mark ends as it would without: a mark's score is above that of a piece that the search tries, and so is the score of
-- what stood before. Assumes nothing.
use Rattle.std.specs.Prelude.{Option, Some, None}
use Prim.Native.Nat.{ℕ, zero, suc, ◌≤◌, ◌<◌}
use native.Mathlib.Nat.{eq-or-lt_of_le}
use native.Mathlib.Omega.{arith}
use mathlib.Core.Bool.{Bool, true, false, true≢false}
use mathlib.Core.List.{List}
use mathlib.Core.Logic.{◌⊎◌, inl, inr}
use mathlib.Core.Path.{◌≡◌, refl, sym, ap, subst, ◌∙◌}
use lib.ListN.{length, get_or, set, length-set}
use lib.Seq.{get_or-set_same, get_or-set_other, set-get_or, set-set}
use lib.Ieee.{Float, lt}
use Rattle.geometry.specs.Geometry.{is_whole, line_quad, intersect_of}
use Rattle.geometry.specs.declared.Quad.{Quad}
use Rattle.geometry.specs.declared.Point.{Point}
use Rattle.measure.specs.declared.Measure as M
use Rattle.breaks.specs.Breaks.{Row, break_at}
use Rattle.attempt.specs.Answers.{Leg, Statelet, score_of, Best, none, best, ok_for_half, previous_score, may_build, total_of, built_on, is_less, replaced_if, combined_if, combined}
use Rattle.attempt.specs.Value.{best_of, combine_of}
use Rattle.attempt.specs.declared.answer.Answer as A
use Rattle.optimize.specs.Optimize.{Measure, measure_by, best_at, States, refused, states, measured, try_quad, try_if, straight, bent_quad, bent_at, bent, then_bent, try_line_quad, onward, try_all, falling}
use Rattle.optimize.specs.Fallen.{Fallen, fallen_between, fell_bent_at, fell_bent, fell_then_bent, fell_pair, fell_onward, fell_all}
use Rattle.optimize.specs.Stored.{slot_at, loaded, standing_at, row_of, Stands, lacks, has, Phase, Room, Into, Rep, Becomes}
use Rattle.optimize.specs.Steps.{by_all}
use Rattle.optimize.specs.Marks.{bend_of, Offers, by_line, by_bend, Marked}
use Rattle.optimize.proofs.Compare.{lt_number, lt_lt, lt_beyond, lt_self}
use Rattle.optimize.proofs.Attempt.{stands_total, attempted}
use Rattle.optimize.proofs.Trying.{quad_made, bend_ends, bent_is, from_whole, from_upto}

-- ---- what two states have in common along the pairs into a break

pub data Both (R : List Best → List Best → Type 0) : States → States → Type 0 where
  stop : Both R refused refused
  on : {a b : List Best} → R a b → Both R (states a) (states b)

module _ (measure : Measure) (breaks : Row) (penalty : Float) (j : ℕ) where
  -- after an attempt
  abbrev after : ℕ → Quad → Float → List Best → List Best
  after i q e st = set st j (combined (best_at st j) (best_at st i) (record { from = i; to = j; quad = q }) e penalty)

  -- what lasts: it shows the same below the break, and no attempt ends it
  pub record Lasts (R : List Best → List Best → Type 0) : Type 0 where
    pub sees : {a b : List Best} (i : ℕ) → i < j → R a b → best_at a i ≡ best_at b i
    pub takes : {a b : List Best} (i : ℕ) (q : Quad) (e : Float) → i < j → R a b → R (after i q e a) (after i q e b)

  module _ {R : List Best → List Best → Type 0} (lasts : Lasts R) where
    module _ (i : ℕ) (below : i < j) where
      quad_both : (q : Quad) {a b : List Best} → R a b → Both R (try_quad measure breaks penalty i j q a) (try_quad measure breaks penalty i j q b)
      unfolding try_quad
      quad_both q {a} {b} r = by (measure i j q)
        where
          by : (x : Option M.Measure) → Both R (measured measure breaks penalty x i j q a) (measured measure breaks penalty x i j q b)
          by None = stop
          by (Some m) = on (lasts.takes i q m.error below r)

      if_both : (t : Bool) (q : Quad) {a b : List Best} → R a b → Both R (try_if measure breaks penalty t i j q a) (try_if measure breaks penalty t i j q b)
      if_both true q r = quad_both q r
      if_both false q r = on r

      straight_both : {a b : List Best} → R a b → Both R (straight measure breaks penalty i j a) (straight measure breaks penalty i j b)
      straight_both r = if_both (is_whole (break_at breaks i).xy) (line_quad (break_at breaks i).xy (break_at breaks j).xy) r

      bent_both : {a b : List Best} → R a b → Both R (bent measure breaks penalty i j a) (bent measure breaks penalty i j b)
      unfolding bent
      bent_both {a} {b} r = by (intersect_of (break_at breaks i).xy (break_at breaks i).dir (break_at breaks j).xy (break_at breaks j).dir)
        where
          by : (c : Option Point) → Both R (bent_at measure breaks penalty c i j a) (bent_at measure breaks penalty c i j b)
          by None = on r
          by (Some p) =
              let q = bent_quad measure breaks penalty i j p in
              subst (λ (u : Best). Both R (try_if measure breaks penalty (ok_for_half u q) i j q a) (try_if measure breaks penalty (ok_for_half (best_at b i) q) i j q b)) (sym (lasts.sees i below r))
              (if_both (ok_for_half (best_at b i) q) q r)

      then_both : {s t : States} → Both R s t → Both R (then_bent measure breaks penalty i j s) (then_bent measure breaks penalty i j t)
      then_both stop = stop
      then_both (on r) = bent_both r

      pub pair_both : {a b : List Best} → R a b → Both R (try_line_quad measure breaks penalty i j a) (try_line_quad measure breaks penalty i j b)
      unfolding try_line_quad
      pair_both r = then_both (straight_both r)

      onward_both : {s t : States} → Both R s t → Both R (onward measure breaks penalty i j s) (onward measure breaks penalty i j t)
      onward_both stop = stop
      onward_both (on r) = pair_both r

    all_both : (k : ℕ) → k ≤ j → {s t : States} → Both R s t → Both R (try_all measure breaks penalty (falling k j) s) (try_all measure breaks penalty (falling k j) t)
    unfolding try_all falling
    all_both zero upto r = r
    all_both (suc k) upto r = all_both k (omega arith) (onward_both k (omega arith) r)

    -- as many lookups fall
    module _ (fallen : Fallen) where
      fell_bent_lem : (i : ℕ) → i < j → {a b : List Best} → R a b → fell_bent measure fallen breaks penalty i j a ≡ fell_bent measure fallen breaks penalty i j b
      unfolding fell_bent
      fell_bent_lem i below {a} {b} r = by (intersect_of (break_at breaks i).xy (break_at breaks i).dir (break_at breaks j).xy (break_at breaks j).dir)
        where
          by : (c : Option Point) → fell_bent_at measure fallen breaks penalty c i j a ≡ fell_bent_at measure fallen breaks penalty c i j b
          by None = refl
          by (Some p) = rw (lasts.sees i below r) refl

      fell_then : (i : ℕ) → i < j → {s t : States} → Both R s t → fell_then_bent measure fallen breaks penalty i j s ≡ fell_then_bent measure fallen breaks penalty i j t
      fell_then i below stop = refl
      fell_then i below (on r) = fell_bent_lem i below r

      fell_onward_lem : (i : ℕ) → i < j → {s t : States} → Both R s t → fell_onward measure fallen breaks penalty i j s ≡ fell_onward measure fallen breaks penalty i j t
      unfolding fell_pair
      fell_onward_lem i below stop = refl
      fell_onward_lem i below (on r) = rw (fell_then i below (straight_both i below r)) refl

      fell_both : (k : ℕ) → k ≤ j → {s t : States} → Both R s t → fell_all measure fallen breaks penalty (falling k j) s ≡ fell_all measure fallen breaks penalty (falling k j) t
      unfolding fell_all falling
      fell_both zero upto r = refl
      fell_both (suc k) upto r = rw (fell_onward_lem k (omega arith) r, fell_both k (omega arith) (onward_both k (omega arith) r)) refl

  -- ---- of one state: it is in common with itself

  abbrev pub Only : (List Best → Type 0) → List Best → List Best → Type 0
  Only P a b = (a ≡ b) × P a

  abbrev Each : (List Best → Type 0) → States → Type 0
  Each P refused = Unit
  Each P (states a) = P a

  each : {P : List Best → Type 0} {s t : States} → Both (Only P) s t → Each P s
  each stop = tt
  each (on r) = r.1

  only : {P : List Best → Type 0} → ((a : List Best) (i : ℕ) (q : Quad) (e : Float) → i < j → P a → P (after i q e a)) → Lasts (Only P)
  only keeps = record { sees = λ i below r. ap (λ (a : List Best). best_at a i) r.0; takes = λ i q e below r. (ap (after i q e) r.0, keeps _ i q e below r.1) }

  long : (a : List Best) (i : ℕ) (q : Quad) (e : Float) → j < length a → j < length (after i q e a)
  long a i q e h = rw (length-set a j (combined (best_at a j) (best_at a i) (record { from = i; to = j; quad = q }) e penalty)) h

  -- what stands at a break below, in states that are so long
  record Still (i : ℕ) (u : Best) (a : List Best) : Type 0 where
    pub inside : j < length a
    pub there : best_at a i ≡ u

  still : (i : ℕ) (u : Best) → i < j → Lasts (Only (Still i u))
  still i u below = only (λ a k q e less s. record {
    inside = long a k q e s.inside;
    there = get_or-set_other a j i (combined (best_at a j) (best_at a k) (record { from = k; to = j; quad = q }) e penalty) none (λ z. omega (arith, z, below)) ∙ s.there;
  })

  -- ---- an answer whose score is not above a number

  record Low (cap : Float) (t : Best) : Type 0 where
    pub answer : Statelet
    pub is : t ≡ best answer
    pub most : lt cap (score_of answer) ≡ false

  score_built : (u : Best) (p : Leg) (s : Float) → score_of (built_on u p s) ≡ s
  score_built none p s = refl
  score_built (best a) p s = refl

  -- it stays one
  combined_low : (cap : Float) (t u : Best) (p : Leg) (e : Float) → Low cap t → Low cap (combined t u p e penalty)
  unfolding combined
  combined_low cap t u p e low = rw low.is (by (may_build p.from u) (lt s (score_of low.answer)) refl)
    where
      s : Float
      s = total_of u p.quad e penalty

      lower : lt s (score_of low.answer) ≡ true → (b : Bool) → lt cap s ≡ b → b ≡ false
      lower h true k = sym (lt_lt cap s (score_of low.answer) k h) ∙ low.most
      lower h false k = refl

      by : (may less : Bool) → lt s (score_of low.answer) ≡ less → Low cap (combined_if may (best low.answer) u p s)
      by false less h = record { answer = low.answer; is = refl; most = low.most }
      by true true h = rw h (record { answer = built_on u p s; is = refl; most = ap (λ (v : Float). lt cap v) (score_built u p s) ∙ lower h (lt cap s) refl })
      by true false h = rw h (record { answer = low.answer; is = refl; most = low.most })

  -- it is one, once a piece with that score is tried
  reached_low : (t u : Best) (p : Leg) (e : Float) → may_build p.from u ≡ true → Low (total_of u p.quad e penalty) (combined t u p e penalty)
  unfolding combined
  reached_low t u p e may = rw may (by t)
    where
      s : Float
      s = total_of u p.quad e penalty

      new : Low s (best (built_on u p s))
      new = record { answer = built_on u p s; is = refl; most = ap (λ (v : Float). lt s v) (score_built u p s) ∙ lt_self s }

      by : (t : Best) → Low s (replaced_if (is_less s t) t (built_on u p s))
      by none = new
      by (best a) = go (lt s (score_of a)) refl
        where
          go : (less : Bool) → lt s (score_of a) ≡ less → Low s (replaced_if less (best a) (built_on u p s))
          go true h = new
          go false h = record { answer = a; is = refl; most = h }

  record LowAt (cap : Float) (a : List Best) : Type 0 where
    pub inside : j < length a
    pub low : Low cap (best_at a j)

  after_is : (a : List Best) (i : ℕ) (q : Quad) (e : Float) → j < length a → best_at (after i q e a) j ≡ combined (best_at a j) (best_at a i) (record { from = i; to = j; quad = q }) e penalty
  after_is a i q e h = get_or-set_same a j (combined (best_at a j) (best_at a i) (record { from = i; to = j; quad = q }) e penalty) none h

  low_lasts : (cap : Float) → Lasts (Only (LowAt cap))
  low_lasts cap = only (λ a i q e below l. record {
    inside = long a i q e l.inside;
    low = rw (after_is a i q e l.inside) (combined_low cap (best_at a j) (best_at a i) (record { from = i; to = j; quad = q }) e l.low);
  })

  -- ---- two answers that are equal, or both above a number

  record Over (cap : Float) (s t : Best) : Type 0 where
    pub left : Statelet
    pub right : Statelet
    pub is_left : s ≡ best left
    pub is_right : t ≡ best right
    pub left_over : lt cap (score_of left) ≡ true
    pub right_over : lt cap (score_of right) ≡ true

  abbrev Close : Float → Best → Best → Type 0
  Close cap s t = (s ≡ t) ⊎ Over cap s t

  -- they stay so
  over_close : (cap : Float) (u : Best) (p : Leg) (e : Float) (x y : Statelet) → lt cap (score_of x) ≡ true → lt cap (score_of y) ≡ true →
      Close cap (combined (best x) u p e penalty) (combined (best y) u p e penalty)
  unfolding combined
  over_close cap u p e x y hx hy = by (may_build p.from u)
    where
      v : Float
      v = total_of u p.quad e penalty

      both : (z w : Statelet) → lt cap (score_of z) ≡ true → lt cap (score_of w) ≡ true → Close cap (best z) (best w)
      both z w hz hw = inr (record { left = z; right = w; is_left = refl; is_right = refl; left_over = hz; right_over = hw })

      new_over : (z w : Statelet) → lt v (score_of z) ≡ true → lt v (score_of w) ≡ false → lt cap (score_of w) ≡ true → lt cap (score_of (built_on u p v)) ≡ true
      new_over z w less more over = ap (λ (f : Float). lt cap f) (score_built u p v) ∙ lt_beyond cap (score_of w) v (lt_number v (score_of z) less) over more

      go : (a b : Bool) → lt v (score_of x) ≡ a → lt v (score_of y) ≡ b → Close cap (replaced_if a (best x) (built_on u p v)) (replaced_if b (best y) (built_on u p v))
      go true true h k = inl refl
      go true false h k = both (built_on u p v) y (new_over x y h k hy) hy
      go false true h k = both x (built_on u p v) hx (new_over y x k h hx)
      go false false h k = both x y hx hy

      by : (may : Bool) → Close cap (combined_if may (best x) u p v) (combined_if may (best y) u p v)
      by false = both x y hx hy
      by true = go (lt v (score_of x)) (lt v (score_of y)) refl refl

  combined_close : (cap : Float) (s t u : Best) (p : Leg) (e : Float) → Close cap s t → Close cap (combined s u p e penalty) (combined t u p e penalty)
  combined_close cap s t u p e (inl same) = inl (ap (λ (v : Best). combined v u p e penalty) same)
  combined_close cap s t u p e (inr o) = rw (o.is_left, o.is_right) (over_close cap u p e o.left o.right o.left_over o.right_over)

  -- two states that differ at the break alone, and there no more than that
  record Alike (cap : Float) (a b : List Best) : Type 0 where
    pub inside : j < length a
    pub other : Best
    pub is : b ≡ set a j other
    pub close : Close cap (best_at a j) other

  below_same : {cap : Float} {a b : List Best} (i : ℕ) → i < j → Alike cap a b → best_at a i ≡ best_at b i
  below_same {a = a} i below r = sym (ap (λ (c : List Best). best_at c i) r.is ∙ get_or-set_other a j i r.other none (λ z. omega (arith, z, below)))

  alike_lasts : (cap : Float) → Lasts (Alike cap)
  alike_lasts cap = record { sees = below_same; takes = takes }
    where
      takes : {a b : List Best} (i : ℕ) (q : Quad) (e : Float) → i < j → Alike cap a b → Alike cap (after i q e a) (after i q e b)
      takes {a} {b} i q e below r = record {
        inside = long a i q e r.inside;
        other = combined (best_at b j) (best_at b i) p e penalty;
        is = ap (λ (c : List Best). set c j (combined (best_at b j) (best_at b i) p e penalty)) r.is ∙ set-set a j r.other _ ∙ sym (set-set a j _ _);
        close = rw (after_is a i q e r.inside, ← below_same i below r, at_break) (combined_close cap (best_at a j) r.other (best_at a i) p e r.close);
      }
        where
          p : Leg
          p = record { from = i; to = j; quad = q }

          at_break : best_at b j ≡ r.other
          at_break = ap (λ (c : List Best). best_at c j) r.is ∙ get_or-set_same a j r.other none r.inside

  -- ---- the search into the break, which tries the piece q from break i

  self : {P : List Best → Type 0} (s : States) → Each P s → Both (Only P) s s
  self refused l = stop
  self (states a) l = on (refl, l)

  module _ (fallen : Fallen) (st : List Best) (i : ℕ) (q : Quad) (m : M.Measure) (below : i < j) (inside : j < length st) (offers : Offers breaks (best_at st i) i j q)
      (is : measure i j q ≡ Some m) (may : may_build i (best_at st i) ≡ true) where
    abbrev cap : Float
    cap = total_of (best_at st i) q m.error penalty

    quad_low : (a : List Best) → Still i (best_at st i) a → Each (LowAt cap) (try_quad measure breaks penalty i j q a)
    quad_low a s =
        rw (quad_made measure breaks penalty i j q a m is) (record {
          inside = long a i q m.error s.inside;
          low = rw (after_is a i q m.error s.inside, s.there) (reached_low (best_at a j) (best_at st i) (record { from = i; to = j; quad = q }) m.error may);
        })

    then_low : (s : States) → Each (LowAt cap) s → Each (LowAt cap) (then_bent measure breaks penalty i j s)
    then_low refused l = tt
    then_low (states a) l = each (bent_both (low_lasts cap) i below (refl, l))

    bend_low : (Some q) ≡ bend_of breaks (best_at st i) i j → (s : States) → Each (Still i (best_at st i)) s → Each (LowAt cap) (then_bent measure breaks penalty i j s)
    bend_low e refused x = tt
    bend_low e (states a) x =
        rw (bent_is measure fallen breaks penalty i j a (e ∙ ap (λ (u : Best). bend_of breaks u i j) (sym x.there))) (quad_low a x)

    pair_low : (a : List Best) → Still i (best_at st i) a → Each (LowAt cap) (try_line_quad measure breaks penalty i j a)
    unfolding try_line_quad
    pair_low a s = by offers
      where
        by : Offers breaks (best_at st i) i j q → Each (LowAt cap) (try_line_quad measure breaks penalty i j a)
        by (by_line whole e) =
            rw (from_whole measure breaks penalty i j a whole)
            (then_low (try_quad measure breaks penalty i j (line_quad (break_at breaks i).xy (break_at breaks j).xy) a)
            (subst (λ (r : Quad). Each (LowAt cap) (try_quad measure breaks penalty i j r a)) e (quad_low a s)))
        by (by_bend e) = bend_low e (straight measure breaks penalty i j a) (each (straight_both (still i (best_at st i) below) i below (refl, s)))

    onward_low : (s : States) → Each (Still i (best_at st i)) s → Each (LowAt cap) (onward measure breaks penalty i j s)
    onward_low refused x = tt
    onward_low (states a) x = pair_low a x

    -- some pair into the break is that one
    all_low : (k : ℕ) → i < k → k ≤ j → (s : States) → Each (Still i (best_at st i)) s → Each (LowAt cap) (try_all measure breaks penalty (falling k j) s)
    unfolding try_all falling
    all_low zero some upto s x = absurd (omega arith)
    all_low (suc k) some upto s x =
        by (eq-or-lt_of_le (omega arith))
        (λ less. all_low k less (omega arith) (onward measure breaks penalty k j s) (each (onward_both (still i (best_at st i) below) k (omega arith) (self s x))))
      where
        by : (i ≡ k) ⊎ (i < k) → (i < k → Each (LowAt cap) (try_all measure breaks penalty (falling k j) (onward measure breaks penalty k j s))) →
            Each (LowAt cap) (try_all measure breaks penalty (falling k j) (onward measure breaks penalty k j s))
        by (inl e) later =
            each (all_both (low_lasts cap) k (omega arith)
            (self (onward measure breaks penalty k j s) (subst (λ (n : ℕ). Each (LowAt cap) (onward measure breaks penalty n j s)) e (onward_low s x))))
        by (inr less) later = later less

    finish : {s t : States} → Both (Alike cap) s t → Each (LowAt cap) s → s ≡ t
    finish stop l = refl
    finish (on {a = a} {b = b} r) l = ap states (by r.close)
      where
        by : Close cap (best_at a j) r.other → a ≡ b
        by (inl e) = sym (r.is ∙ ap (λ (t : Best). set a j t) (sym e) ∙ set-get_or a j none)
        by (inr o) =
            absurd (true≢false (sym o.left_over ∙ ap (λ (t : Best). lt cap (previous_score t)) (sym o.is_left ∙ l.low.is) ∙ l.low.most))

    module _ (x y : Statelet) (was : best_at st j ≡ best x) (x-over : lt cap (score_of x) ≡ true) (y_over : lt cap (score_of y) ≡ true) where
      alike : Both (Alike cap) (states st) (states (set st j (best y)))
      alike = on (record {
        inside = inside;
        other = best y;
        is = refl;
        close = inr (record { left = x; right = y; is_left = was; is_right = refl; left_over = x-over; right_over = y_over });
      })

      pub ends_alike : try_all measure breaks penalty (falling j j) (states st) ≡ try_all measure breaks penalty (falling j j) (states (set st j (best y)))
      ends_alike = finish (all_both (alike_lasts cap) j (omega arith) alike) (all_low j below (omega arith) (states st) (record { inside = inside; there = refl }))

      pub fell_alike : fell_all measure fallen breaks penalty (falling j j) (states st) ≡ fell_all measure fallen breaks penalty (falling j j) (states (set st j (best y)))
      fell_alike = fell_both (alike_lasts cap) fallen j (omega arith) alike

  -- an answer with the piece q and a score that is higher, written if that is less than what stands
  module _ (fallen : Fallen) (st : List Best) (i : ℕ) (q : Quad) (m : M.Measure) (below : i < j) (inside : j < length st) (offers : Offers breaks (best_at st i) i j q)
      (is : measure i j q ≡ Some m) (more : Float) (higher : lt (total_of (best_at st i) q m.error penalty) (total_of (best_at st i) q more penalty) ≡ true)
      (x : Statelet) (was : best_at st j ≡ best x) where
    abbrev ending : List Best → States × ℕ
    ending a = (try_all measure breaks penalty (falling j j) (states a), fell_all measure fallen breaks penalty (falling j j) (states a))

    abbrev leg : Leg
    leg = record { from = i; to = j; quad = q }

    abbrev least : Float
    least = total_of (best_at st i) q m.error penalty

    abbrev score : Float
    score = total_of (best_at st i) q more penalty

    kept : ending st ≡ ending (set st j (best x))
    kept = ap ending (sym (ap (λ (t : Best). set st j t) (sym was) ∙ set-get_or st j none))

    mark_if_lem : (may : Bool) → may_build i (best_at st i) ≡ may → ending st ≡ ending (set st j (combined_if may (best x) (best_at st i) leg score))
    mark_if_lem false e = kept
    mark_if_lem true e = by (lt score (score_of x)) refl
      where
        y : Statelet
        y = built_on (best_at st i) leg score

        y_over : lt least (score_of y) ≡ true
        y_over = ap (λ (s : Float). lt least s) (score_built (best_at st i) leg score) ∙ higher

        new : lt score (score_of x) ≡ true → ending st ≡ ending (set st j (best y))
        new h =
            rw (
              ends_alike fallen st i q m below inside offers is e x y was (lt_lt least score (score_of x) higher h) y_over,
              fell_alike fallen st i q m below inside offers is e x y was (lt_lt least score (score_of x) higher h) y_over,
            )
            refl

        by : (less : Bool) → lt score (score_of x) ≡ less → ending st ≡ ending (set st j (replaced_if less (best x) y))
        by true h = new h
        by false h = kept

    pub mark_ends : ending st ≡ ending (set st j (combined (best_at st j) (best_at st i) leg more penalty))
    unfolding combined
    mark_ends = rw was (mark_if_lem (may_build i (best_at st i)) refl)

-- ---- in the rows

-- no mark
pub unmarked : {samples : List (List Float)} {bs : Row} {penalty : Float} {f : Phase} {n : ℕ} {rs : List (List Float)} {ls : List ℕ} {j : ℕ} {st : List Best} →
    Rep f n bs rs ls st → Marked samples bs penalty f n rs ls j st
unmarked {st = st} rep = record { now = st; rep = rep; same = refl }

record Answered (t : Best) : Type 0 where
  pub answer : Statelet
  pub is : t ≡ best answer

answered : {P : ℕ → Type 0} {bs : Row} {rs : List (List Float)} {ls : List ℕ} {b : ℕ} {t : Best} → Stands P bs rs ls b t → (get_or ls (slot_at ls b) 0 ≡ 0 → ⊥) → Answered t
answered (lacks z) some = absurd (some z)
answered (has {a} h) some = record { answer = a; is = refl }

offers_ends : {bs : Row} {u : Best} {i j : ℕ} {q : Quad} → Offers bs u i j q → (q.p0 ≡ (break_at bs i).xy) × (q.p2 ≡ (break_at bs j).xy)
offers_ends (by_line whole e) = (ap (λ (r : Quad). r.p0) e, ap (λ (r : Quad). r.p2) e)
offers_ends {bs} {u} {i} {j} (by_bend e) = bend_ends bs u i j e

module _ {f : Phase} {n : ℕ} {bs : Row} {rs : List (List Float)} {ls : List ℕ} {st : List Best} {i j k : ℕ} (room : Room n bs rs ls) (into : Into f n i j k) (rep : Rep f n bs rs ls st) where
  -- a mark that is written
  pub marked : (samples : List (List Float)) (q : Quad) (m : M.Measure) (more penalty : Float) (x : A.Answer) → Offers bs (best_at st i) i j q → measure_by samples bs i j q ≡ Some m →
      (get_or ls (slot_at ls j) 0 ≡ 0 → ⊥) →
      lt (total_of (best_of (standing_at bs rs ls i)) q m.error penalty) (total_of (best_of (standing_at bs rs ls i)) q more penalty) ≡ true →
      x ≡ combine_of (loaded bs rs ls (slot_at ls j)) (standing_at bs rs ls i) more q penalty → Marked samples bs penalty f n (set rs k (row_of x)) (set ls k x.link) j st
  marked samples q m more penalty x offers e some higher is =
      let ends = offers_ends offers in
      let there = rep.stands i (from_upto into) in
      let stood = answered (rep.stands j into.upto) some in
      record {
        now = set st j (combined (best_at st j) (best_at st i) (record { from = i; to = j; quad = q }) more penalty);
        rep = attempted room into rep q ends.0 ends.1 more penalty x is;
        same =
            mark_ends (measure_by samples bs) bs penalty j (fallen_between samples bs) st i q m into.rising (omega (arith, rep.long, into.upto)) offers e more
            (sym (rw (stands_total q m.error penalty there, stands_total q more penalty there) refl) ∙ higher) stood.answer stood.is;
      }

-- what the search from a mark becomes, it becomes from the states before
pub from_mark : {samples : List (List Float)} {bs : Row} {penalty : Float} {f : Phase} {n : ℕ} {rs rs' : List (List Float)} {ls ls' : List ℕ} {j : ℕ} {st : List Best} {r : Option ℕ}
    (m : Marked samples bs penalty f n rs ls j st) → Becomes f n bs rs' ls' (by_all samples bs penalty (falling j j) m.now).0 (by_all samples bs penalty (falling j j) m.now).1 r →
    Becomes f n bs rs' ls' (by_all samples bs penalty (falling j j) st).0 (by_all samples bs penalty (falling j j) st).1 r
from_mark {bs = bs} {f = f} {n = n} {rs' = rs'} {ls' = ls'} {r = r} m b = subst (λ (e : States × ℕ). Becomes f n bs rs' ls' e.0 e.1 r) (sym m.same) b
