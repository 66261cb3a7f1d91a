-- No answer at the last break has a control with a NaN, where that break has none: `NoNanControl` of specs/Controls. Assumes nothing.
use Rattle.std.specs.Prelude.{Option, Some, None}
use Prim.Native.Nat.{ℕ, zero, suc, ◌+◌, ◌-◌, ◌*◌, ◌^◌, ◌<◌}
use native.Mathlib.Decide.{ℕ_discrete, dec_lt}
use native.Mathlib.Omega.{arith}
use mathlib.Core.Bool.{Bool, true, false, not, cond, ◌&&◌, ◌||◌, beq, false≢true}
use mathlib.Core.List.{List, []}
use mathlib.Core.Path.{◌≡◌, refl, sym, ap, ◌∙◌, subst}
use lib.Dec.{T, ltb}
use lib.ListN.{length, set, replicate, length-set, length-replicate, get_or-eq_default}
use lib.Seq.{get_or-set_same, get_or-set_other}
use lib.Ieee.{Float, nan, inf, fin, binary64, up, down, unlike, odd, units, round, neg, sum, add, sub, mul, lt, is_nan, of_bits}
use lib.Ieee.Fits.{round_is}
use lib.Ieee.Scale.{finite}
use Rattle.float.specs.Numbers.{half}
use Rattle.float.specs.Float.{abs_of, close_to}
use Rattle.float.proofs.Number.{only_nan}
use Rattle.float.proofs.Zeros.{plus_nan, times_nan}
use Rattle.geometry.specs.Geometry.{is_line, is_smooth, is_whole, lerp_of, along_of, line_quad, intersect_of, Finite}
use Rattle.geometry.specs.declared.Point.{Point}
use Rattle.geometry.specs.declared.Quad.{Quad}
use Rattle.geometry.proofs.Whole.{whole_finite, near_finite}
use Rattle.quickmeasure.specs.Statements.{has_nan}
use Rattle.quickmeasure.proofs.Spoilt.{spoils}
use Rattle.breaks.specs.Breaks.{Row, unpacked_of, break_at}
use Rattle.attempt.specs.Answers.{Leg, Statelet, score_of, leg_of, Best, none, best, is_curve, smooth_after, ok_for_half, joint_of, previous_score, built_on, is_less, replaced_if, may_build, combined_if, combined}
use Rattle.optimize.specs.Optimize.{Measure, measure_by, best_at, States, measured, try_quad, try_if, bent_quad, bent_at, bent, then_bent, try_line_quad}
use Rattle.optimize.specs.Controls.{NoNan, starts, goes, NoNanControl}
use Rattle.optimize.proofs.Walk.{set_each, none_yet, After, stops, holds, answered}
use Rattle.measure.specs.declared.Measure as M
use Rattle.std.specs.Prelude.{Option, Some, None}

-- ---- what stands at a break
data Clean : Best → Type 0 where
  nothing : Clean none
  stands : {a : Statelet} → NoNan a → Clean (best a)

built_clean : (t : Best) (p : Leg) (s : Float) → Clean t → has_nan p.quad.p1 ≡ false → Clean (best (built_on t p s))
built_clean none p s c h = stands (starts h)
built_clean (best a) p s (stands n) h = stands (goes n h)

-- a piece whose control has no NaN
combined_clean : (may less : Bool) (old t : Best) (p : Leg) (s : Float) → is_less s old ≡ less → Clean old → Clean t → has_nan p.quad.p1 ≡ false → Clean (combined_if may old t p s)
combined_clean false less old t p s e c d h = c
combined_clean true true old t p s e c d h = rw e (built_clean t p s d h)
combined_clean true false old t p s e c d h = rw e c

-- a score that is a NaN replaces no answer
no_less : (x : Float) → lt nan x ≡ false
unfolding lt
no_less x = refl

keeps_old : (may : Bool) (a : Statelet) (t : Best) (p : Leg) → combined_if may (best a) t p nan ≡ best a
keeps_old false a t p = refl
keeps_old true a t p = rw (no_less (score_of a)) refl

-- ---- the control of a straight piece
odd_number : (d : ℕ) (s : Bool) (q k l : ℕ) → is_nan (odd d s q k l) ≡ false
unfolding odd is_nan
odd_number d s zero k l = refl
odd_number d s (suc q) k l = refl

units_number : (s : Bool) (q k : ℕ) → is_nan (units binary64 s q k) ≡ false
unfolding units is_nan
units_number s q k = by (ltb (q * 2 ^ k) (2 ^ 2098))
  where
    by : (b : Bool) → is_nan (cond b (odd 54 s q k 1074) (inf s)) ≡ false
    by true = odd_number 54 s q k 1074
    by false = refl

round_number : (s : Bool) (a c : ℕ) → is_nan (round binary64 s a c) ≡ false
round_number s a c = rw (round_is binary64 s a c) (units_number s _ _)

sum_number : (s : Bool) (a : ℕ) (t : Bool) (b c : ℕ) → is_nan (sum binary64 s a t b c) ≡ false
unfolding sum
sum_number s a t b c = by (beq s t) (ltb a b)
  where
    by : (x y : Bool) → is_nan (cond x (round binary64 s (a + b) c) (cond y (round binary64 t (b - a) c) (round binary64 (s && ltb b a) (a - b) c))) ≡ false
    by true y = round_number s (a + b) c
    by false true = round_number t (b - a) c
    by false false = round_number (s && ltb b a) (a - b) c

-- a finite number and what is no NaN
plus_number : (x y : Float) → T (finite x) → is_nan y ≡ false → is_nan (add binary64 x y) ≡ false
unfolding add is_nan
plus_number (fin s m e) nan f n = absurd (false≢true (sym n))
plus_number (fin s m e) (inf t) f n = refl
plus_number (fin s m e) (fin t k d) f n = sum_number s (m * up e * down d) t (k * up d * down e) (down e * down d)
plus_number nan y f n = elim f [ ]
plus_number (inf _) y f n = elim f [ ]

-- what is no NaN, less a finite number
minus_number : (x y : Float) → is_nan x ≡ false → T (finite y) → is_nan (sub binary64 x y) ≡ false
unfolding sub add neg is_nan
minus_number nan (fin t k d) n f = absurd (false≢true (sym n))
minus_number (inf s) (fin t k d) n f = refl
minus_number (fin s m e) (fin t k d) n f = plus_number (fin s m e) (fin (not t) k d) tt refl
minus_number nan nan n f = elim f [ ]
minus_number nan (inf _) n f = elim f [ ]
minus_number (inf s) nan n f = elim f [ ]
minus_number (inf s) (inf _) n f = elim f [ ]
minus_number (fin s m e) nan n f = elim f [ ]
minus_number (fin s m e) (inf _) n f = elim f [ ]

half_number : (y : Float) → is_nan y ≡ false → is_nan (mul binary64 half y) ≡ false
unfolding mul is_nan of_bits
half_number nan n = absurd (false≢true (sym n))
half_number (inf t) n = refl
half_number (fin t k d) n = round_number (unlike false t) (1 * 1 * (k * up d)) (2 * down d)

middle_number : (a b : Float) → T (finite a) → is_nan b ≡ false → is_nan (along_of a b half) ≡ false
middle_number a b f n = plus_number a _ f (half_number _ (minus_number b a n f))

or-false : (a b : Bool) → a ≡ false → b ≡ false → (a || b) ≡ false
or-false a b e f = rw (e, f) refl

or_parts : (a b : Bool) → (a || b) ≡ false → (a ≡ false) × (b ≡ false)
or_parts false b e = (refl, e)
or_parts true b e = absurd (false≢true (sym e))

line_number : (p q : Point) → is_whole p ≡ true → has_nan q ≡ false → has_nan (lerp_of p q half) ≡ false
line_number p q whole n =
    let f = whole_finite p whole in
    let m = or_parts (is_nan q.x) (is_nan q.y) n in
    or-false _ _ (middle_number p.x q.x f.0 m.0) (middle_number p.y q.y f.1 m.1)

-- ---- a bent piece to a control with a NaN goes on smoothly from none, so that it is tried from whole units alone
close_nan : (b : Float) → close_to nan b ≡ false
unfolding close_to abs_of sub add lt
close_nan b = refl

minus_from_nan : (a : Float) → sub binary64 nan a ≡ nan
unfolding sub add
minus_from_nan a = refl

along_to_nan : (a : Float) → along_of a nan half ≡ nan
along_to_nan a = rw (minus_from_nan a, times_nan half) (plus_nan a)

smooth_nan : (prev next : Quad) → has_nan next.p1 ≡ true → is_smooth prev next ≡ false
smooth_nan prev next h = by (is_nan next.p1.x) refl h
  where
    and-false : (b : Bool) → (b && false) ≡ false
    and-false true = refl
    and-false false = refl

    by : (b : Bool) → is_nan next.p1.x ≡ b → (b || is_nan next.p1.y) ≡ true → is_smooth prev next ≡ false
    by true e k = rw (only_nan next.p1.x e, along_to_nan prev.p1.x, close_nan next.p0.x) refl
    by false e k = rw (only_nan next.p1.y k, along_to_nan prev.p1.y, close_nan next.p0.y) (and-false (close_to (along_of prev.p1.x next.p1.x half) next.p0.x))

after_nan : (t : Best) (q : Quad) → has_nan q.p1 ≡ true → smooth_after t q ≡ false
after_nan none q h = refl
after_nan (best a) q h = rw (smooth_nan (leg_of a).quad q h) (none_so (is_curve (best a)))
  where
    none_so : (b : Bool) → (b && false) ≡ false
    none_so true = refl
    none_so false = refl

from_whole : (t : Best) (q : Quad) → has_nan q.p1 ≡ true → ok_for_half t q ≡ true → is_whole q.p0 ≡ true
from_whole t q h ok = by (is_whole q.p0) (not (is_line q)) (subst (λ (b : Bool). (is_whole q.p0 || (not (is_line q) && b)) ≡ true) (after_nan t q h) ok)
  where
    by : (w c : Bool) → (w || (c && false)) ≡ true → w ≡ true
    by true c e = refl
    by false true e = absurd (false≢true e)
    by false false e = absurd (false≢true e)

-- ---- a piece starts at no break with a NaN
finite_number : (x : Float) → T (finite x) → is_nan x ≡ false
unfolding is_nan
finite_number (fin s m e) f = refl
finite_number nan f = elim f [ ]
finite_number (inf _) f = elim f [ ]

finite_has : (p : Point) → Finite p → has_nan p ≡ false
finite_has p f = or-false _ _ (finite_number p.x f.0) (finite_number p.y f.1)

from_smooth : (t : Best) (q : Quad) → smooth_after t q ≡ true → has_nan q.p0 ≡ false
from_smooth none q h = absurd (false≢true h)
from_smooth (best a) q h = finite_has q.p0 (near_finite _ q.p0 (second (is_curve (best a)) (is_smooth (leg_of a).quad q) h))
  where
    second : (b c : Bool) → (b && c) ≡ true → c ≡ true
    second true c e = e
    second false c e = absurd (false≢true e)

from_number : (t : Best) (q : Quad) → ok_for_half t q ≡ true → has_nan q.p0 ≡ false
from_number t q ok = by (is_whole q.p0) refl (not (is_line q)) ok
  where
    by : (w : Bool) → is_whole q.p0 ≡ w → (c : Bool) → (w || (c && smooth_after t q)) ≡ true → has_nan q.p0 ≡ false
    by true e c h = finite_has q.p0 (whole_finite q.p0 e)
    by false e true h = from_smooth t q h
    by false e false h = absurd (false≢true h)

-- ---- one pair
module _ (samples : List (List Float)) (breaks : Row) (penalty : Float) where
  abbrev measure : Measure
  measure = measure_by samples breaks

  abbrev place_of : ℕ → Point
  place_of b = (break_at breaks b).xy

  abbrev CleanAt : ℕ → Best → Type 0
  CleanAt b t = has_nan (place_of b) ≡ false → Clean t

  record Kept (st : List Best) : Type 0 where
    long : length st ≡ length breaks
    clean : (b : ℕ) → CleanAt b (best_at st b)

  -- past the breaks there are NaNs alone
  in_row : (j : ℕ) → has_nan (place_of j) ≡ false → j < length breaks
  unfolding is_nan
  in_row j h = by (dec_lt j (length breaks))
    where
      by : Dec (j < length breaks) → j < length breaks
      by (yes k) = k
      by (no k) = absurd (false≢true (sym (subst (λ (r : List Float). has_nan (unpacked_of r).xy ≡ false) (get_or-eq_default breaks [] {n = j} (omega arith)) h)))

  -- what stands at break j, or nothing can be built from break i
  abbrev Settled : ℕ → ℕ → List Best → Type 0
  Settled i j st = best_at st j ≡ none → may_build i (best_at st i) ≡ false

  module _ (i j : ℕ) where
    abbrev leg : Quad → Leg
    leg q = record { from = i; to = j; quad = q }

    abbrev made : List Best → Quad → Float → Best
    made st q e = combined (best_at st j) (best_at st i) (leg q) e penalty

    set_kept : (st : List Best) (t : Best) → Kept st → CleanAt j t → Kept (set st j t)
    set_kept st t k c = record { long = length-set st j t ∙ k.long; clean = set_each CleanAt st j t k.clean c }

    number_made : (st : List Best) (q : Quad) (e : Float) → Kept st → has_nan (place_of i) ≡ false → (has_nan (place_of j) ≡ false → has_nan q.p1 ≡ false) → CleanAt j (made st q e)
    unfolding combined
    number_made st q e k from h to = combined_clean (may_build i (best_at st i)) _ (best_at st j) (best_at st i) (leg q) _ refl (k.clean j to) (k.clean i from) (h to)

    number_kept : (st : List Best) (q : Quad) (w : Option M.Measure) → Kept st → has_nan (place_of i) ≡ false → has_nan q.p1 ≡ false → After Kept (measured measure breaks penalty w i j q st)
    number_kept st q None k from h = stops
    number_kept st q (Some m) k from h = holds (set_kept st _ k (number_made st q m.error k from (λ to. h)))

    -- a control with a NaN, where something stands or nothing can be built
    nan_made : (st : List Best) (q : Quad) → Kept st → (has_nan (place_of j) ≡ false → Settled i j st) → CleanAt j (made st q nan)
    unfolding combined
    nan_made st q k settled to =
        rw (plus_nan (add binary64 (previous_score (best_at st i)) (mul binary64 penalty (joint_of (best_at st i) q)))) (by (best_at st j) refl)
      where
        by : (x : Best) → best_at st j ≡ x → Clean (combined_if (may_build i (best_at st i)) x (best_at st i) (leg q) nan)
        by none e = rw (settled to e) nothing
        by (best a) e = rw (keeps_old (may_build i (best_at st i)) a (best_at st i) (leg q)) (subst Clean e (k.clean j to))

    nan_kept : (st : List Best) (q : Quad) (w : Option M.Measure) → measure i j q ≡ w → Kept st → (has_nan (place_of j) ≡ false → Settled i j st) → has_nan q.p1 ≡ true →
        After Kept (measured measure breaks penalty w i j q st)
    nan_kept st q None e k settled h = stops
    nan_kept st q (Some m) e k settled h =
        let spoilt : m.error ≡ nan = spoils samples (break_at breaks i).s (break_at breaks j).s q h m e in
        holds (set_kept st _ k (subst (λ (x : Float). CleanAt j (made st q x)) (sym spoilt) (nan_made st q k settled)))

    -- ---- the bent piece, after a straight one from whole units
    record Ready (st : List Best) : Type 0 where
      kept : Kept st
      settled : is_whole (place_of i) ≡ true → has_nan (place_of j) ≡ false → Settled i j st

    bent_if : (st : List Best) → Ready st → (q : Quad) → q.p0 ≡ place_of i → (ok has : Bool) → ok_for_half (best_at st i) q ≡ ok → has_nan q.p1 ≡ has →
        After Kept (try_if measure breaks penalty ok i j q st)
    unfolding try_quad
    bent_if st r q at false has e h = holds r.kept
    bent_if st r q at true false e h = number_kept st q (measure i j q) r.kept (subst (λ (p : Point). has_nan p ≡ false) at (from_number (best_at st i) q e)) h
    bent_if st r q at true true e h = nan_kept st q (measure i j q) refl r.kept (r.settled (ap is_whole (sym at) ∙ from_whole (best_at st i) q h e)) h

    bent_kept : (st : List Best) → Ready st → (x : Option Point) → After Kept (bent_at measure breaks penalty x i j st)
    bent_kept st r None = holds r.kept
    bent_kept st r (Some p) = let q = bent_quad measure breaks penalty i j p in bent_if st r q refl (ok_for_half (best_at st i) q) (has_nan q.p1) refl refl

    then_bent_lem : {s : States} → After Ready s → After Kept (then_bent measure breaks penalty i j s)
    unfolding bent
    then_bent_lem stops = stops
    then_bent_lem (holds {st} r) = bent_kept st r (intersect_of (place_of i) (break_at breaks i).dir (place_of j) (break_at breaks j).dir)

    -- ---- the straight piece settles the break
    may_not : (k : ℕ) (t : Best) → may_build k t ≡ false → may_build k none ≡ false
    may_not zero none e = e
    may_not (suc k) t e = refl
    may_not zero (best a) e = e

    some : (less : Bool) (s : Float) (x : Best) (a : Statelet) → is_less s x ≡ less → replaced_if less x a ≡ none → ⊥
    some true s x a e h = cc
    some false s none a e h = cc
    some false s (best b) a e h = cc

    settles : (st : List Best) (p : Leg) (s : Float) → j < length st → (may : Bool) → may_build i (best_at st i) ≡ may →
        Settled i j (set st j (combined_if may (best_at st j) (best_at st i) p s))
    settles st p s inside true e h = absurd (some (is_less s (best_at st j)) s (best_at st j) (built_on (best_at st i) p s) refl (sym (get_or-set_same st j _ none inside) ∙ h))
    settles st p s inside false e h = at (ℕ_discrete i j)
      where
        at : Dec (i ≡ j) → may_build i (best_at (set st j (best_at st j)) i) ≡ false
        at (yes same) = rw (same, h) (may_not j (best_at st j) (subst (λ (n : ℕ). may_build n (best_at st n) ≡ false) same e))
        at (no other) = rw (get_or-set_other st j i (best_at st j) none other) e

    straight_settles : (st : List Best) (q : Quad) (e : Float) → j < length st → Settled i j (set st j (made st q e))
    unfolding combined
    straight_settles st q e inside = settles st (leg q) _ inside (may_build i (best_at st i)) refl

    abbrev line : Quad
    line = line_quad (place_of i) (place_of j)

    straight_made : (st : List Best) → Kept st → is_whole (place_of i) ≡ true → (w : Option M.Measure) → After Ready (measured measure breaks penalty w i j line st)
    straight_made st k e None = stops
    straight_made st k e (Some m) = holds (record {
      kept = set_kept st _ k (number_made st line m.error k (finite_has (place_of i) (whole_finite (place_of i) e)) (line_number (place_of i) (place_of j) e));
      settled = λ h to. straight_settles st line m.error (omega (arith, k.long, in_row j to));
    })

    straight_kept : (st : List Best) → Kept st → (whole : Bool) → is_whole (place_of i) ≡ whole → After Ready (try_if measure breaks penalty whole i j line st)
    unfolding try_quad
    straight_kept st k false e = holds (record { kept = k; settled = λ h. absurd (false≢true (sym e ∙ h)) })
    straight_kept st k true e = straight_made st k e (measure i j line)

    pair_kept : (st : List Best) → Kept st → After Kept (try_line_quad measure breaks penalty i j st)
    unfolding try_line_quad
    pair_kept st k = then_bent_lem (straight_kept st k (is_whole (place_of i)) refl)

  at_first : Kept (replicate (length breaks) none)
  at_first = record { long = length-replicate (length breaks) none; clean = λ b h. rw (none_yet (length breaks) b) nothing }

cleaned : {a : Statelet} → Clean (best a) → NoNan a
cleaned (stands n) = n

pub no_nan_control : NoNanControl
no_nan_control samples breaks penalty number a pairs e =
    let s = answered (Kept samples breaks penalty) (measure_by samples breaks) breaks penalty (pair_kept samples breaks penalty) (at_first samples breaks penalty) e in
    cleaned (subst Clean s.there (s.keeps.clean _ number))
