-- A contour that none of refusals 1 to 5 is given for. What works such a contour requires `Accepted`, and whoever judged it has that
-- by `accepted`. Assumes nothing.
use Rattle.std.specs.Prelude.{ℕ, zero, suc, ◌≤◌, ◌<◌, Bool, true, false, not, ◌&&◌, ◌||◌, List, [], ◌∷◌, ◌≡◌, refl, eqb, ℤ, length, get_or, Result, Ok, Err}
use Rattle.std.proofs.Common.{true≢false, sym, ap, ◌∙◌, pos_of_ne-zero, le_of_suc-le-suc, arith, ltb-false, eqb-true, eq-eqb, ne_eqb, le-ltb}
use Rattle.std.proofs.lemmas.Bool.{eqb-false, not-false}
use Rattle.refusals.specs.Refusals.{is_on, both_off, rows_differ, no_point, too_many, first_off, off_neighbours, refuse, judged}
use Rattle.refusals.specs.declared.refusal.Refusal.{Refusal}
use Rattle.refusals.specs.declared.refusal.Refusal.TheVariants.{UnevenRows, NoPoint, TooManyPoints, StartsOffCurve, OffCurveNeighbours}

-- three rows of one length, 1 to 1,024 points, the first on-curve, no two neighbours off-curve
pub record Accepted (xs ys : List ℤ) (fs : List ℕ) : Type 0 where
  pub same_x : length xs ≡ length fs
  pub same_y : length ys ≡ length fs
  pub some : 0 < length fs
  pub few : length fs ≤ 1024
  pub first : is_on (get_or fs 0 0) ≡ true
  pub apart : off_neighbours fs ≡ false

-- a test that does not refuse
open_to : (k : Refusal) (t : Bool) (later : Result Unit Refusal) → refuse k t later ≡ Ok tt → (t ≡ false) × (later ≡ Ok tt)
open_to k true later h = absurd cc
open_to k false later h = (refl, h)

neither : (a b : Bool) → (not a || not b) ≡ false → (a ≡ true) × (b ≡ true)
neither true b h = (refl, not-false b h)
neither false b h = absurd (true≢false h)

later : (t u : Bool) → (t || u) ≡ false → u ≡ false
later true u h = absurd (true≢false h)
later false u h = h

first_on : (fs : List ℕ) → 0 < length fs → first_off fs ≡ false → is_on (get_or fs 0 0) ≡ true
first_on [] some h = absurd (omega arith)
first_on (f ∷ fs) some h = not-false _ h

pub accepted : (xs ys : List ℤ) (fs : List ℕ) → judged xs ys fs ≡ Ok tt → Accepted xs ys fs
unfolding judged
accepted xs ys fs h =
    let n = length fs in
    let one = open_to UnevenRows (rows_differ (length xs) (length ys) n) _ h in
    let two = open_to NoPoint (no_point n) _ one.1 in
    let three = open_to TooManyPoints (too_many n) _ two.1 in
    let four = open_to StartsOffCurve (first_off fs) _ three.1 in
    let five = open_to OffCurveNeighbours (off_neighbours fs) (Ok tt) four.1 in
    let same = neither (eqb (length xs) (length ys)) (eqb (length xs) n) one.0 in
    let as_y : length xs ≡ length ys = eqb-true _ _ same.0 in
    let as-f : length xs ≡ n = eqb-true _ _ same.1 in
    let any : 0 < n = pos_of_ne-zero (eqb-false _ _ two.0) in
    record {
      same_x = as-f;
      same_y = omega arith;
      some = any;
      few = ltb-false _ _ three.0;
      first = first_on fs any four.0;
      apart = five.0;
    }

-- the other way round: none is given for such a contour
first_test : (fs : List ℕ) → is_on (get_or fs 0 0) ≡ true → first_off fs ≡ false
first_test [] h = refl
first_test (f ∷ fs) h = ap not h

pub judged_fine : {xs ys : List ℤ} {fs : List ℕ} → Accepted xs ys fs → judged xs ys fs ≡ Ok tt
unfolding judged
judged_fine {xs} {ys} {fs} a =
    let none : length fs ≡ 0 → ⊥ = λ z. omega (arith, a.some) in
    rw (
      eq-eqb (length xs) (length ys) (a.same_x ∙ sym a.same_y),
      eq-eqb (length xs) (length fs) a.same_x,
      ne_eqb (length fs) 0 none,
      le-ltb 1024 (length fs) a.few,
      first_test fs a.first,
      a.apart,
    )

second : (s t u : Bool) → s ≡ false → ((not s && not t) || u) ≡ false → t ≡ true
second true t u off h = absurd (true≢false off)
second false true u off h = refl
second false false u off h = absurd (true≢false h)

-- after an off-curve point the next in the row is on-curve
pub next_on : (fs : List ℕ) (i : ℕ) → off_neighbours fs ≡ false → suc i < length fs → is_on (get_or fs i 0) ≡ false → is_on (get_or fs (suc i) 0) ≡ true
unfolding off_neighbours
next_on [] i apart h off = absurd (omega arith)
next_on (a ∷ []) i apart h off = absurd (omega arith)
next_on (a ∷ b ∷ fs) zero apart h off = second (is_on a) (is_on b) _ off apart
next_on (a ∷ b ∷ fs) (suc i) apart h off = next_on (b ∷ fs) i (later (both_off a b) (off_neighbours (b ∷ fs)) apart) (le_of_suc-le-suc h) off
