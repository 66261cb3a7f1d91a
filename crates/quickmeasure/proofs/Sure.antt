-- Where the stages lie before the last stored place each lookup is answered, so that there is a measure, and it is not negative. Assumes nothing.
use Prim.Native.Nat.{ℕ, zero, suc, ◌+◌, ◌*◌, ◌/◌, ◌^◌, ◌≤◌, ◌<◌}
use mathlib.Core.Bool.{true, false, false≢true}
use mathlib.Core.Path.{◌≡◌, refl, sym, ◌∙◌}
use mathlib.Core.List.{List, [], ◌∷◌}
use native.Mathlib.Nat.{div-lt_iff_lt-mul}
use native.Mathlib.Numerals.{add-one}
use native.Mathlib.Omega.{arith}
use borrow.Author.Tests.{lt-leb}
use lib.ListN.{length, get_or, set, replicate, length-set}
use lib.IntN.{pos}
use lib.Ieee.{Float, nan, inf, fin, binary64, up, down, lt, of_int, to_unsigned}
use lib.Ieee.Exact.{HasValue}
use lib.Ieee.Back.{round_whole}
use lib.Ieee.Fits.{down_pos}
use Rattle.float.specs.Float.{fract_of}
use Rattle.float.proofs.Downward.{positive_below}
use Rattle.geometry.specs.declared.Quad.{Quad}
use Rattle.quickarclen.specs.Stages.{Written}
use Rattle.quicklookup.specs.Spots.{spot_between}
use Rattle.quicklookup.proofs.Laws.{inside}
use Rattle.measure.specs.Measure.{along_samples, measure_functor_of, measure_of}
use Rattle.quickmeasure.specs.Terms.{term_in, sums_of, Seen, Before}
use Rattle.measure.specs.NotNegative.{Measurable}
use Rattle.measure.specs.Fallen.{fallen_of}
use Rattle.quickmeasure.specs.Counting.{fallen_below}
use Rattle.quickmeasure.specs.Early.{Shown, Shows}
use Rattle.measure.specs.declared.MeasureFunctor.{MeasureFunctor}
use Rattle.quickmeasure.proofs.Stored.{none, one_more, whole}
use Rattle.quickmeasure.proofs.Asked.{counted}
use Rattle.quickmeasure.proofs.Signs.{plus_is, term_plus, sums_plus}

-- a length below the whole number n, above 0, has a place below n
place_below : (z s : Float) (n : ℕ) → HasValue z false n 1 → 0 < n → lt s z ≡ true → to_unsigned 64 s < n
unfolding lt to_unsigned
place_below (fin t p g) nan n v h less = h
place_below (fin t p g) (inf true) n v h less = h
place_below (fin t p g) (inf false) n v h less = absurd (false≢true less)
place_below (fin t p g) (fin true m e) n v h less = h
place_below (fin t p g) (fin false m e) n v h less =
    let cut : m * up e / down e < n = (div-lt_iff_lt-mul (down_pos e)).1 (positive_below (fin t p g) n m e v less) in
    omega arith
place_below nan s n v h less = elim v [ ]
place_below (inf _) s n v h less = elim v [ ]

-- the lookups are answered, at places before the last stored one: what is seen, as it would be written
module _ (row : List (List Float)) (m : MeasureFunctor) (stages : List (List Float))
    (inside-at : (k : ℕ) → k < 40 → to_unsigned 64 (along_samples m (get_or (get_or stages k []) 2 nan)) + 1 < length row) where
  -- at the stages below k
  record Sight (k : ℕ) : Type 0 where
    seen : List (List Float)
    long : length seen ≡ 40
    all : Seen row m stages seen k

  sight : (k : ℕ) → k ≤ 40 → Sight k
  sight zero le = record { seen = replicate 40 []; long = refl; all = none }
  sight (suc k) le =
      let passed = sight k (omega arith) in
      let s = along_samples m (get_or (get_or stages k []) 2 nan) in
      let b = to_unsigned 64 s in
      let spot = spot_between (get_or row b []) (get_or row (b + 1) []) (fract_of s) in
      let a : List Float = spot.xy.x ∷ spot.xy.y ∷ spot.dir.x ∷ spot.dir.y ∷ [] in
      record {
        seen = set passed.seen k a;
        long = simp length-set passed.long;
        all = rw (← add-one k) (one_more a passed.all (omega arith) (inside row s b refl (inside-at k le)));
      }

  none_fell : (k : ℕ) → k ≤ 40 → fallen_below row m stages k ≡ 0
  unfolding fallen_below
  none_fell zero le = refl
  none_fell (suc k) le =
      let s = along_samples m (get_or (get_or stages k []) 2 nan) in
      let within : to_unsigned 64 s < length row = omega (arith, inside-at k le) in
      rw (none_fell k (omega arith), lt-leb (length row) (to_unsigned 64 s) within)

  pub answered : Shown row m stages
  answered =
      let s = sight 40 (omega arith) in
      record { seen = s.seen; all = s.all; none = none_fell 40 (omega arith) }

-- n is the last stored place
module _ (row : List (List Float)) (n : ℕ) (stored : length row ≡ n + 1) (more : 0 < n) (exact : n ≤ 2 ^ 53) where
  pub place_inside : (s : Float) → lt s (of_int binary64 (pos n)) ≡ true → to_unsigned 64 s + 1 < length row
  unfolding of_int
  place_inside s less =
      let below = place_below (of_int binary64 (pos n)) s n (round_whole binary64 false n exact) more less in
      omega arith

  pub shown : (m : MeasureFunctor) (stages : List (List Float)) → Before m stages (of_int binary64 (pos n)) 40 → Shown row m stages
  shown m stages before = answered row m stages (λ k less. place_inside _ (before.is k less))

-- m is the work on q, between the lengths s0 and s1
pub shows_by : {row : List (List Float)} {s0 s1 : Float} {q : Quad} {m : MeasureFunctor} (stages : List (List Float)) → m ≡ measure_functor_of s0 s1 q →
    Written m.af stages → Shown row m stages → Shows row s0 s1 q
shows_by stages is w s = record { stages = stages; written = rw is at w; shown = rw is at s }

-- all written stages are the same, so that what is shown at one list of them is shown at the other
module _ (row : List (List Float)) (m : MeasureFunctor) (others stages : List (List Float)) (v : Written m.af others) (w : Written m.af stages) where
  same : (k : ℕ) → k < 40 → get_or others k [] ≡ get_or stages k []
  same k less = v.is k less ∙ sym (w.is k less)

  fallen_same : (k : ℕ) → k ≤ 40 → fallen_below row m others k ≡ fallen_below row m stages k
  unfolding fallen_below
  fallen_same zero le = refl
  fallen_same (suc k) le = rw (fallen_same k (omega arith), same k le)

  shown_same : Shown row m others → Shown row m stages
  shown_same s =
      record {
        seen = s.seen;
        all = record { is = λ k less. rw (← same k less) (s.all.is k less) };
        none = sym (fallen_same 40 (omega arith)) ∙ s.none;
      }

-- the way back
pub shown_by : {row : List (List Float)} {s0 s1 : Float} {q : Quad} {m : MeasureFunctor} (stages : List (List Float)) → m ≡ measure_functor_of s0 s1 q →
    Written m.af stages → Shows row s0 s1 q → Shown row m stages
shown_by stages is w k = rw is (shown_same _ _ k.stages stages k.written (rw is at w) k.shown)

pub measurable : {row : List (List Float)} {s0 s1 : Float} {q : Quad} → Shows row s0 s1 q → Measurable row s0 s1 q
unfolding measure_of fallen_of
measurable {row} {s0} {s1} {q} k =
    let m = measure_functor_of s0 s1 q in
    let s = k.shown in
    let is = sym (whole row m k.stages k.written s.seen s.all) in
    record {
      error = sums_of (term_in m.af m.q k.stages s.seen) 10;
      is = is;
      sign = plus_is (sums_plus _ 10 (term_plus m.af m.q k.stages s.seen k.written));
      none = counted row m k.stages k.written _ is ∙ s.none;
    }
