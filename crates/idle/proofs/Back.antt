-- The list of what was dropped, put back into the rows of what is left, gives the upload's points: the statement of specs/Statements. Assumes nothing.
use Prim.Native.Nat.{ℕ, zero, suc, ◌+◌, ◌-◌, ◌≤◌, ◌<◌}
use mathlib.Core.Bool.{Bool, true, false}
use mathlib.Core.List.{List, [], ◌∷◌, map, map-map}
use mathlib.Core.Path.{◌≡◌, refl, sym, ap, ◌∙◌}
use native.Mathlib.Omega.{arith}
use borrow.Author.Tests.{lt-ltb, ltb-true, eq-eqb, ne_eqb, lt-leb}
use lib.Dec.{ltb}
use lib.IntN.{ℤ}
use lib.ListN.{length, get_or, length-map}
use Rattle.refusals.specs.Accepted.{Accepted, accepted}
use Rattle.clean.specs.Clean.{on_place, same_place, up_from}
use Rattle.clean.specs.Pass.{after_of}
use Rattle.clean.specs.PutBack.{number_of, kept_spot, Point, point_at}
use Rattle.clean.specs.Determine.{length_up}
use Rattle.clean.specs.Statements.{coordinates_left, flags_left, uploaded, spot_point}
use Rattle.clean.proofs.Sweeping.{place_is}
use Rattle.clean.proofs.Theorems.{past, number, coordinate_as}
use Rattle.clean.proofs.Back.{no_bit, as_kept}
use Rattle.idle.specs.Idle.{before_of, beside_of, listed_at, kept_of, list_of, places_of}
use Rattle.idle.specs.PutBack.{beside_kept, idle_spot, drop_at, is_back, passed_as, passed_to, spot_of}
use Rattle.idle.specs.Statements.{written_back, ListPutBack}
use Rattle.idle.proofs.Places.{count, count_none, count_more, stands, inside, Found, find}
use Rattle.idle.proofs.Neighbours.{Seen, on_curve_lem, free, by_before, by_after, seen, kept, listed, kept_there, goes, before_kept, after_kept}
use Rattle.idle.proofs.Theorems.{each_once}

-- two rules that agree on the places up to n agree on them in order
map_up : {A : Type 0} (f g : ℕ → A) (n : ℕ) → ((p : ℕ) → p < n → f p ≡ g p) → (q m : ℕ) → q + m ≡ n → map f (up_from q m) ≡ map g (up_from q m)
unfolding up_from
map_up f g n h q zero e = refl
map_up f g n h q (suc m) e = rw (h q (omega arith), map_up f g n h (q + 1) m (omega arith))

module _ {xs ys : List ℤ} {fs : List ℕ} (a : Accepted xs ys fs) where
  abbrev n : ℕ
  n = length fs

  abbrev row : List ℕ
  row = kept_of (beside_of xs ys fs) (places_of fs)

  abbrev list : List (List ℕ)
  list = list_of (beside_of xs ys fs) (places_of fs)

  -- kept and listed before place p
  abbrev K : ℕ → ℕ
  K = count (kept xs ys fs)

  abbrev L : ℕ → ℕ
  L = count (listed xs ys fs)

  together : (p : ℕ) → K p + L p ≡ p
  together p = each_once (beside_of xs ys fs) (up_from 0 p) ∙ length_up 0 p

  -- ---- which places are drops

  drop_there : (p w : ℕ) → beside_of xs ys fs p ≡ suc w → listed xs ys fs p ≡ (p ∷ suc w ∷ []) ∷ []
  drop_there p w h = rw h

  drop_is : (p w : ℕ) → p < n → beside_of xs ys fs p ≡ suc w → drop_at (length row) list (L p) ≡ p ∷ suc w ∷ []
  drop_is p w h e = stands (listed xs ys fs) n p h (p ∷ suc w ∷ []) (drop_there p w e) []

  is_back_lem : (p w : ℕ) → p < n → beside_of xs ys fs p ≡ suc w → is_back (length row) list p (L p) ≡ true
  is_back_lem p w h e = rw (lt-ltb (L p) (length list) (inside (listed xs ys fs) n p h (p ∷ suc w ∷ []) (drop_there p w e)), drop_is p w h e, eq-eqb p p refl)

  few_listed : (p : ℕ) → length (listed xs ys fs p) ≤ 1
  few_listed p = by (beside_of xs ys fs p)
    where
      by : (w : ℕ) → length (listed_at w p) ≤ 1
      by zero = omega arith
      by (suc w) = omega arith

  -- a drop's number is not that of a place that stays
  other_number : (p : ℕ) → beside_of xs ys fs p ≡ 0 → L p < length list → number_of (drop_at (length row) list (L p)) ≡ p → ⊥
  other_number p z h e = by (beside_of xs ys fs q) refl there.some
    where
      there : Found (listed xs ys fs) n (L p)
      there = find (listed xs ys fs) few_listed n (L p) h

      q : ℕ
      q = there.p

      by : (w : ℕ) → beside_of xs ys fs q ≡ w → 0 < length (listed_at w q) → ⊥
      by zero f l = omega arith
      by (suc w) f l =
          let is : number_of (drop_at (length row) list (L q)) ≡ q = rw (drop_is q w there.below f) in
          let here : number_of (drop_at (length row) list (L q)) ≡ p = rw there.index e in
          let same : q ≡ p = sym is ∙ here in
          let stays : beside_of xs ys fs q ≡ 0 = rw same z in
          omega arith

  not_back : (p : ℕ) → p < n → beside_of xs ys fs p ≡ 0 → is_back (length row) list p (L p) ≡ false
  not_back p h z = by (ltb (L p) (length list)) refl
    where
      by : (b : Bool) → ltb (L p) (length list) ≡ b → is_back (length row) list p (L p) ≡ false
      by false e = rw e
      by true e =
          let less : p - L p < length row = omega (arith, together p, inside (kept xs ys fs) n p h p (kept_there xs ys fs p z)) in
          rw (e, ne_eqb (number_of (drop_at (length row) list (L p))) p (other_number p z (ltb-true (L p) (length list) e)), lt-leb (length row) (p - L p) less)

  -- the drops before place p are those that were listed
  passed_is : (p : ℕ) → p ≤ n → passed_to (length row) list p ≡ L p
  unfolding passed_to
  passed_is zero h = sym (count_none (listed xs ys fs))
  passed_is (suc p) h = ap (passed_as (length row) list p) (passed_is p (omega arith)) ∙ by (beside_of xs ys fs p) refl ∙ sym (count_more (listed xs ys fs) p)
    where
      by : (w : ℕ) → beside_of xs ys fs p ≡ w → passed_as (length row) list p (L p) ≡ L p + length (listed_at (beside_of xs ys fs p) p)
      by zero e = rw (not_back p (omega arith) e, e) (omega arith)
      by (suc w) e = rw (is_back_lem p w (omega arith) e, e)

  -- ---- what is written at each place

  abbrev anew : List ℕ → Point
  anew = spot_point (coordinates_left xs row) (coordinates_left ys row) (flags_left fs row)

  abbrev was : ℕ → ℕ
  was = number xs ys fs row

  abbrev far : ℕ
  far = past xs ys fs row

  minus : (p : ℕ) → p - L p ≡ K p
  minus p = omega (arith, together p)

  spot_kept : (p : ℕ) → p < n → beside_of xs ys fs p ≡ 0 → spot_of (length row) list p ≡ kept_spot (K p)
  spot_kept p h z = rw (passed_is p (omega arith), not_back p h z, minus p)

  spot_idle : (p w : ℕ) → p < n → beside_of xs ys fs p ≡ suc w → spot_of (length row) list p ≡ idle_spot (beside_kept (suc w) (length row) (K p))
  spot_idle p w h e = rw (passed_is p (omega arith), is_back_lem p w h e, drop_is p w h e, minus p)

  point_kept : (p : ℕ) → p < n → beside_of xs ys fs p ≡ 0 → anew (kept_spot (K p)) ≡ point_at xs ys fs p
  point_kept p h z = as_kept xs ys fs row (K p) ∙ ap (point_at xs ys fs) (stands (kept xs ys fs) n p h p (kept_there xs ys fs p z) far)

  -- an off-curve copy of a point q that is equal to p
  point_copied : (p q k : ℕ) → was k ≡ q → on_place fs p ≡ false → same_place xs ys p q ≡ true → anew (idle_spot k) ≡ point_at xs ys fs p
  point_copied p q k e off same =
      let equal = place_is xs ys p q same in
      rw (
        coordinate_as xs ys fs row xs (omega arith) k,
        coordinate_as xs ys fs row ys (omega arith) k,
        e,
        equal.0,
        equal.1,
        no_bit (get_or fs p 0) off,
      )

  each : (p : ℕ) → p < n → anew (spot_of (length row) list p) ≡ point_at xs ys fs p
  each p h = by (beside_of xs ys fs p) refl (seen xs ys fs p)
    where
      by : (w : ℕ) → beside_of xs ys fs p ≡ w → Seen xs ys fs p w → anew (spot_of (length row) list p) ≡ point_at xs ys fs p
      by w e (on_curve_lem z o) = ap anew (spot_kept p h (e ∙ z)) ∙ point_kept p h (e ∙ z)
      by w e (free z off f g) = ap anew (spot_kept p h (e ∙ z)) ∙ point_kept p h (e ∙ z)
      by w e (by_before z off f) =
          ap anew (spot_idle p 0 h (e ∙ z))
          ∙ point_copied p (before_of p n) (K p - 1) (before_kept xs ys fs a p far h off).stands_there off f
      by w e (by_after z off f) =
          let same = goes xs ys fs p 1 (e ∙ z) in
          ap anew (spot_idle p 1 h (e ∙ z))
          ∙ point_copied p (after_of p n) (beside_kept 2 (length row) (K p)) (rw same at (after_kept xs ys fs a p far h off)) off f

  all_back : written_back (coordinates_left xs row) (coordinates_left ys row) (flags_left fs row) list ≡ uploaded xs ys fs
  all_back =
      let size : length (flags_left fs row) ≡ length row = simp length-map in
      let total : length row + length list ≡ n = each_once (beside_of xs ys fs) (places_of fs) ∙ length_up 0 n in
      rw (size, total) (map-map anew (spot_of (length row) list) (up_from 0 n) ∙ map_up (λ (p : ℕ). anew (spot_of (length row) list p)) (point_at xs ys fs) n each 0 n (omega arith))

pub put_back_lem : ListPutBack
put_back_lem xs ys fs kept drops c =
    let is = c.is in
    let same_kept : kept_of (beside_of xs ys fs) (places_of fs) ≡ kept = cc in
    let same-drops : list_of (beside_of xs ys fs) (places_of fs) ≡ drops = cc in
    rw (← same_kept, ← same-drops) (all_back (accepted xs ys fs c.fine))
