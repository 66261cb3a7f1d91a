-- Each break carries a segment of its run, and a later break no earlier one: the lengths of breaks rise, and of a longer length no earlier end is at least it.
-- Assumes nothing.
use Prim.Native.Nat.{ℕ, zero, suc, ◌+◌, ◌-◌, ◌*◌, ◌≤◌, ◌<◌}
use native.Mathlib.Nat.{eq-or-lt_of_le}
use native.Mathlib.Omega.{arith}
use mathlib.Core.Bool.{Bool, true, false, ◌&&◌, true≢false}
use mathlib.Core.List.{List, [], ◌∷◌}
use mathlib.Core.Logic.{◌⊎◌, inl, inr}
use mathlib.Core.Path.{◌≡◌, refl, sym, ap, subst}
use borrow.Author.Tests.{ltb-true, ltb-false, eqb-true, leb-true}
use lib.Dec.{T, eqb, ltb, leb}
use lib.IntN.{ℤ}
use lib.ListN.{length}
use lib.Ieee.{Float, nan, inf, fin, up, down, is_nan, le, of_bits}
use lib.Ieee.Fits.{down_pos}
use lib.Ieee.Order.{le_of_values}
use lib.Ieee.Positive.{through}
use Rattle.float.specs.Numbers.{nought}
use Rattle.float.proofs.NotNegative.{NotNegative, no_number, endless, number}
use Rattle.float.proofs.Nearly.{at_most}
use Rattle.breaks.specs.Breaks.{break_at}
use Rattle.chain.specs.Valid.{leads, joined}
use Rattle.chain.specs.declared.Piece.{Piece}
use Rattle.outline.specs.Segments.{start_of, end_of, count_of}
use Rattle.runs.proofs.Strict.{run_has_segments}
use Rattle.samples.specs.Samples.{quads_from}
use Rattle.segments.specs.Laws.{held_few, ends_few}
use Rattle.segments.specs.Segments.{ends_from, ends_of, first_holding, here_if, place_in, round_if, number_of}
use Rattle.survey.proofs.Along.{lies, lengths_plus, lengths_rising}
use Rattle.survey.proofs.Speeds.{Size, after_size}
use Rattle.survey.proofs.Speeds as Speeds
use Rattle.survey.specs.Never.{Sixteen}
use Rattle.settings.specs.Settings.{grid_of}
use Rattle.chains.specs.Replaced.{place_of, BreaksInRun, Rising, none, next, SpansRise}
use Rattle.chains.proofs.Own.{breaks_carry}

-- ---- floats that are not negative, in order

le_through : {x y z : Float} → NotNegative x → NotNegative y → NotNegative z → T (le x y) → T (le y z) → T (le x z)
unfolding le
le_through no_number y z h k = absurd h
le_through endless no_number z h k = absurd h
le_through endless (number n d) z h k = absurd h
le_through endless endless z h k = k
le_through (number m e) no_number z h k = absurd h
le_through (number m e) endless no_number h k = absurd k
le_through (number m e) endless endless h k = tt
le_through (number m e) endless (number l f) h k = absurd k
le_through (number m e) (number n d) no_number h k = absurd k
le_through (number m e) (number n d) endless h k = tt
le_through (number m e) (number n d) (number l f) h k =
    le_of_values (fin false m e) (fin false l f) (m * up e) (down e) (l * up f) (down f) (down_pos e) (down_pos f) (refl, refl) (refl, refl)
    (through (m * up e) (n * up d) (l * up f) (down e) (down d) (down f) (down_pos d) (at_most (m * up e * down d) (n * up d * down e) h)
    (at_most (n * up d * down f) (l * up f * down d) k))

-- what stands in an order is no NaN
is_number : {x : Float} (y : Float) → NotNegative x → T (le x y) → is_nan x ≡ false
unfolding le is_nan
is_number y no_number h = absurd h
is_number y endless h = refl
is_number y (number m e) h = refl

-- ---- the ends of segments

data Each (P : Float → Type 0) : List Float → Type 0 where
  done : Each P []
  also : {x : Float} {xs : List Float} → P x → Each P xs → Each P (x ∷ xs)

size_plus : {x : Float} → Size x → NotNegative x
size_plus Speeds.endless = endless
size_plus (Speeds.number m e) = number m e

ends_plus : (xs ys : List ℤ) → Sixteen xs → Sixteen ys → (fs : List ℕ) (a n : ℕ) (y : Float) → Size y → Each NotNegative (ends_from (quads_from xs ys fs a n) y)
unfolding quads_from ends_from
ends_plus xs ys sx sy fs a zero y z = done
ends_plus xs ys sx sy fs a (suc n) y z =
    let after = after_size xs ys sx sy fs a y z in
    also (size_plus after) (ends_plus xs ys sx sy fs (end_of fs a) n _ after)

-- of a longer length, no earlier end is at least it
holds_rise : {s t : Float} {ends : List Float} → Each NotNegative ends → NotNegative s → NotNegative t → T (le s t) → first_holding ends s ≤ first_holding ends t
unfolding first_holding
holds_rise done ps pt h = omega arith
holds_rise {s} {t} (also {x} {xs = ends} p e) ps pt h = by (holds_rise e ps pt h) (le s x) refl (le t x) refl
  where
    by : first_holding ends s ≤ first_holding ends t → (a : Bool) → le s x ≡ a → (b : Bool) → le t x ≡ b → here_if a (suc (first_holding ends s)) ≤ here_if b (suc (first_holding ends t))
    by rest true u b v = omega arith
    by rest false u true v = absurd (subst T u (le_through ps pt p h (subst T (sym v) tt)))
    by rest false u false v = omega arith

not_before : (x : Float) {y : Float} → NotNegative y → is_nan y ≡ true → T (le x y) → ⊥
unfolding le is_nan
not_before nan no_number q g = g
not_before (inf b) no_number q g = g
not_before (fin b m f) no_number q g = g
not_before x endless q g = true≢false (sym q)
not_before x (number m f) q g = true≢false (sym q)

place_rise : {s t : Float} {ends : List Float} → Each NotNegative ends → NotNegative s → NotNegative t → T (le s t) → place_in ends s ≤ place_in ends t
place_rise {s} {t} {ends} e ps pt h = rw (is_number t ps h) (by (is_nan t) refl)
  where
    by : (b : Bool) → is_nan t ≡ b → first_holding ends s ≤ here_if b (first_holding ends t)
    by true v = absurd (not_before s pt v h)
    by false v = holds_rise e ps pt h

-- ---- the number of a segment of the run

number_below : (total n : ℕ) → n < total + total → number_of total n < total
number_below total n h = by (ltb n total) refl
  where
    by : (t : Bool) → ltb n total ≡ t → round_if t total n < total
    by true e = ltb-true n total e
    by false e = omega (arith, ltb-false n total e)

-- ---- the statements

pub breaks_in_run : BreaksInRun
breaks_in_run rooms settings xs ys fs k first count samples breaks sx sy run survey =
    let g = grid_of settings in
    let own = breaks_carry rooms settings xs ys fs k first count samples breaks run survey in
    let segments = run_has_segments settings.closed xs ys fs k first count run in
    let l = lies rooms.samples rooms.breaks xs ys fs first count g samples breaks sx sy survey in
    let inside : (i : ℕ) → place_of xs ys fs first count breaks i < count =
    λ i. omega (arith, held_few (ends_of xs ys fs first count) (break_at breaks i).s, ends_few xs ys fs first count, segments.0) in
    let later : (i j : ℕ) → i < j → j < length breaks → place_of xs ys fs first count breaks i ≤ place_of xs ys fs first count breaks j =
    λ i j h below. place_rise (ends_plus xs ys sx sy fs (start_of fs first) (count - 1) nought (unfold of_bits in Speeds.number _ _))
    (lengths_plus l i (omega arith)) (lengths_plus l j below)
    (lengths_rising rooms.samples rooms.breaks xs ys fs first count g samples breaks sx sy survey i j h below) in
    record {
      inside = λ i h. inside i;
      named = λ few i h. own.own few i h;
      below = λ few i h. rw (own.own few i h) (number_below (count_of fs) _ (omega (arith, inside i, segments.1)));
      rise = λ i j h below. by_cases (place_of xs ys fs first count breaks) i j (λ less. later i j less below) (eq-or-lt_of_le h);
    }
  where
    by_cases : (f : ℕ → ℕ) (i j : ℕ) → (i < j → f i ≤ f j) → (i ≡ j) ⊎ (i < j) → f i ≤ f j
    by_cases f i j later (inl e) = rw e (omega arith)
    by_cases f i j later (inr less) = later less

both : (a b : Bool) → a && b ≡ true → (a ≡ true) × (b ≡ true)
both true b h = (refl, h)
both false b h = absurd (true≢false (sym h))

module _ (place : ℕ → ℕ) (n : ℕ) (rise : (i j : ℕ) → i ≤ j → j < suc n → place i ≤ place j) where
  leads_rising : (ps : List Piece) (at : ℕ) → leads n at ps ≡ true → Rising place (place at) ps
  unfolding leads
  leads_rising [] at h = none
  leads_rising (p ∷ ps) at h =
      let from = both (eqb p.from at) _ h in
      let up = both (ltb p.from p.to) _ from.1 in
      let upto = both (leb p.to n) _ up.1 in
      let here : p.from ≡ at = eqb-true p.from at from.0 in
      next (ap place here)
      (rise at p.to (omega (arith, here, ltb-true p.from p.to up.0)) (omega (arith, leb-true p.to n upto.0)))
      (leads_rising ps p.to upto.1)

pub spans_rise : SpansRise
spans_rise rooms settings xs ys fs k first count samples breaks sx sy run survey some ps =
    let f = place_of xs ys fs first count breaks in
    let r = breaks_in_run rooms settings xs ys fs k first count samples breaks sx sy run survey in
    by f (length breaks - 1) (λ i j h below. r.rise i j h (omega arith)) ps
  where
    by : (f : ℕ → ℕ) (n : ℕ) → ((i j : ℕ) → i ≤ j → j < suc n → f i ≤ f j) → (ps : List Piece) → joined n ps ≡ true → Rising f (f 0) ps
    by f (suc n) rise ps h = leads_rising f (suc n) rise ps 0 h
    by f zero rise [] h = none
    by f zero rise (p ∷ []) h = staying (eqb p.from 0) refl (eqb p.to 0) refl h
      where
        staying : (a : Bool) → eqb p.from 0 ≡ a → (b : Bool) → eqb p.to 0 ≡ b → a && b ≡ true → Rising f (f 0) (p ∷ [])
        staying true u true v q =
            let ends : f 0 ≤ f p.to = rw (eqb-true p.to 0 v) (omega arith) in
            next (ap f (eqb-true p.from 0 u)) ends none
        staying true u false v q = absurd (true≢false (sym q))
        staying false u b v q = absurd (true≢false (sym q))
    by f zero rise (p ∷ q ∷ ps) h = absurd (true≢false (sym h))
