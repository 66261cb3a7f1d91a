-- Of every upload that none of 1 to 5 is given for: every point not listed is kept in order; what is left is refused by none of 1 to 5; and sifted
-- again nothing more goes. The statements are those of specs/Statements. Assumes nothing.
use Prim.Native.Nat.{ℕ, zero, suc, ◌+◌, ◌-◌, ◌≤◌, ◌<◌}
use mathlib.Core.Bool.{Bool, true, false, true≢false}
use mathlib.Core.List.{List, [], ◌∷◌, ◌++◌, map}
use mathlib.Core.Path.{◌≡◌, refl, sym, ap, ◌∙◌}
use native.Mathlib.Omega.{arith}
use borrow.Author.Tests.{eq-eqb, ne_eqb, lt-ltb}
use lib.IntN.{ℤ}
use lib.ListN.{length, get_or, length-map}
use Rattle.refusals.specs.Refusals.{off_neighbours}
use Rattle.refusals.specs.Accepted.{Accepted, accepted, judged_fine}
use Rattle.clean.specs.Clean.{on_place, same_place, or_else, cleaned, up_from}
use Rattle.clean.specs.Pass.{after_of}
use Rattle.clean.specs.PutBack.{number_of}
use Rattle.clean.specs.Entry.{bit_in}
use Rattle.clean.specs.Determine.{length_up}
use Rattle.clean.specs.Statements.{without, unlisted, coordinates_left, flags_left}
use Rattle.clean.proofs.Theorems.{not_both, mod_twice, past, number, on_as, equal_as}
use Rattle.idle.specs.Idle.{before_of, beside_of, gathered, kept_at, listed_at, kept_of, list_of, places_of, idle_of}
use Rattle.idle.specs.Statements.{InOrder, KeptInOrder, TwiceDropsNothing}
use Rattle.idle.proofs.Places.{count, stands, Found, find}
use Rattle.idle.proofs.Neighbours.{Seen, on_curve_lem, free, by_before, by_after, seen, on_stays, kept, kept_there, stays, after_on, before_kept, after_kept}

-- ---- every point not listed is kept in order

-- drops of places above k
data Above (k : ℕ) : List (List ℕ) → Type 0 where
  none : Above k []
  one : {d : List ℕ} {drops : List (List ℕ)} → k < number_of d → Above k drops → Above k (d ∷ drops)

without_below : (k q m : ℕ) → k < q → without k (up_from q m) ≡ up_from q m
unfolding up_from without
without_below k q zero h = refl
without_below k q (suc m) h = rw (ne_eqb q k (λ e. omega arith), without_below k (q + 1) m (omega arith))

unlisted_head : (q : ℕ) (rest : List ℕ) {drops : List (List ℕ)} → Above q drops → unlisted drops (q ∷ rest) ≡ q ∷ unlisted drops rest
unfolding unlisted without
unlisted_head q rest none = refl
unlisted_head q rest (one {d} h above) = rw (ne_eqb q (number_of d) (λ e. omega arith)) (unlisted_head q (without (number_of d) rest) above)

unlisted_drop : (q w : ℕ) (rest : List ℕ) (drops : List (List ℕ)) → without q rest ≡ rest →
    unlisted ((q ∷ w ∷ []) ∷ drops) (q ∷ rest) ≡ unlisted drops rest
unfolding unlisted without
unlisted_drop q w rest drops h = ap (unlisted drops) (rw (eq-eqb q q refl) h)

module _ (f : ℕ → ℕ) where
  listed_above : (k q m : ℕ) → k < q → Above k (list_of f (up_from q m))
  unfolding up_from gathered
  listed_above k q zero h = none
  listed_above k q (suc m) h = by (f q) (listed_above k (q + 1) m (omega arith))
    where
      by : (w : ℕ) → Above k (list_of f (up_from (q + 1) m)) → Above k (listed_at w q ++ list_of f (up_from (q + 1) m))
      by zero later = later
      by (suc w) later = one {d = q ∷ suc w ∷ []} h later

  unlisted_kept : (q m : ℕ) → unlisted (list_of f (up_from q m)) (up_from q m) ≡ kept_of f (up_from q m)
  unfolding up_from gathered unlisted without
  unlisted_kept q zero = refl
  unlisted_kept q (suc m) = by (f q) (unlisted_kept (q + 1) m)
    where
      by : (w : ℕ) → unlisted (list_of f (up_from (q + 1) m)) (up_from (q + 1) m) ≡ kept_of f (up_from (q + 1) m) →
          unlisted (listed_at w q ++ list_of f (up_from (q + 1) m)) (q ∷ up_from (q + 1) m) ≡ kept_at w q ++ kept_of f (up_from (q + 1) m)
      by zero later = unlisted_head q (up_from (q + 1) m) (listed_above q (q + 1) m (omega arith)) ∙ ap (◌∷◌ q) later
      by (suc w) later =
          unlisted_drop q (suc w) (up_from (q + 1) m) (list_of f (up_from (q + 1) m)) (without_below q (q + 1) m (omega arith)) ∙ later

  pub each_once : (row : List ℕ) → length (kept_of f row) + length (list_of f row) ≡ length row
  unfolding gathered
  each_once [] = refl
  each_once (p ∷ row) = by (f p) (each_once row)
    where
      by : (w : ℕ) → length (kept_of f row) + length (list_of f row) ≡ length row →
          length (kept_at w p ++ kept_of f row) + length (listed_at w p ++ list_of f row) ≡ suc (length row)
      by zero later = omega arith
      by (suc w) later = omega arith

in_order : (xs ys : List ℤ) (fs : List ℕ) → InOrder fs (kept_of (beside_of xs ys fs) (places_of fs)) (list_of (beside_of xs ys fs) (places_of fs))
in_order xs ys fs =
    record {
      unlisted_stay = sym (unlisted_kept (beside_of xs ys fs) 0 (length fs));
      each = each_once (beside_of xs ys fs) (places_of fs) ∙ length_up 0 (length fs);
    }

pub kept_in_order : KeptInOrder
kept_in_order xs ys fs kept drops c =
    let is = c.is in
    let same_kept : kept_of (beside_of xs ys fs) (places_of fs) ≡ kept = cc in
    let same-drops : list_of (beside_of xs ys fs) (places_of fs) ≡ drops = cc in
    rw (← same_kept, ← same-drops) (in_order xs ys fs)

-- ---- what is left

-- nothing is idle
module _ (f : ℕ → ℕ) where
  all_kept : (q m : ℕ) → ((i : ℕ) → i < q + m → f i ≡ 0) → kept_of f (up_from q m) ≡ up_from q m
  unfolding up_from gathered
  all_kept q zero h = refl
  all_kept q (suc m) h = rw (h q (omega arith)) (ap (◌∷◌ q) (all_kept (q + 1) m (λ i l. h i (omega arith))))

  none_listed : (q m : ℕ) → ((i : ℕ) → i < q + m → f i ≡ 0) → list_of f (up_from q m) ≡ []
  unfolding up_from gathered
  none_listed q zero h = refl
  none_listed q (suc m) h = rw (h q (omega arith)) (none_listed (q + 1) m (λ i l. h i (omega arith)))

not_idle : (o b a : Bool) → b ≡ false → a ≡ false → or_else o 0 (or_else b 1 (or_else a 2 0)) ≡ 0
not_idle true b a e f = refl
not_idle false b a e f = rw (e, f)

module _ {xs ys : List ℤ} {fs : List ℕ} (a : Accepted xs ys fs) where
  abbrev row : List ℕ
  row = kept_of (beside_of xs ys fs) (places_of fs)

  abbrev xs' : List ℤ
  xs' = coordinates_left xs row

  abbrev ys' : List ℤ
  ys' = coordinates_left ys row

  abbrev fs' : List ℕ
  fs' = flags_left fs row

  -- place 0 stays
  pub starts : row ≡ 0 ∷ kept_of (beside_of xs ys fs) (up_from 1 (length fs - 1))
  unfolding up_from gathered
  starts =
      let e : length fs ≡ suc (length fs - 1) = omega (arith, a.some) in
      ap (λ (n : ℕ). kept_of (beside_of xs ys fs) (up_from 0 n)) e ∙ rw (on_stays xs ys fs 0 a.first)

  -- b is the point kept before place q
  apart_from : (m q b : ℕ) → q + m ≡ length fs → (on_place fs b ≡ false → 0 < m → on_place fs q ≡ true) →
      off_neighbours (map (bit_in fs) (b ∷ kept_of (beside_of xs ys fs) (up_from q m))) ≡ false
  unfolding up_from gathered off_neighbours
  apart_from zero q b n h = refl
  apart_from (suc m) q b n h =
      by (beside_of xs ys fs q) (seen xs ys fs q)
      (apart_from m (q + 1) q (omega arith) (λ off l. after_on xs ys fs a q (omega arith) off))
      (λ on. apart_from m (q + 1) b (omega arith) (λ off l. absurd (true≢false (sym on ∙ off))))
    where
      rest : List ℕ
      rest = kept_of (beside_of xs ys fs) (up_from (q + 1) m)

      before_on : on_place fs q ≡ false → on_place fs b ≡ true
      before_on off = on_by (on_place fs b) refl
        where
          on_by : (o : Bool) → on_place fs b ≡ o → on_place fs b ≡ true
          on_by true e = e
          on_by false e = absurd (true≢false (sym (h e (omega arith)) ∙ off))

      here : off_neighbours (map (bit_in fs) (q ∷ rest)) ≡ false → off_neighbours (map (bit_in fs) (b ∷ q ∷ rest)) ≡ false
      here later = rw (mod_twice (get_or fs b 0), mod_twice (get_or fs q 0), not_both (on_place fs b) (on_place fs q) (λ off. h off (omega arith)), later)

      by : (w : ℕ) → Seen xs ys fs q w → off_neighbours (map (bit_in fs) (q ∷ rest)) ≡ false →
          (on_place fs b ≡ true → off_neighbours (map (bit_in fs) (b ∷ rest)) ≡ false) →
          off_neighbours (map (bit_in fs) (b ∷ (kept_at w q ++ rest))) ≡ false
      by w (on_curve_lem z o) kept dropped = rw z (here kept)
      by w (free z off f g) kept dropped = rw z (here kept)
      by w (by_before z off f) kept dropped = rw z (dropped (before_on off))
      by w (by_after z off f) kept dropped = rw z (dropped (before_on off))

  pub accepted_left : Accepted xs' ys' fs'
  accepted_left =
      let n = each_once (beside_of xs ys fs) (places_of fs) ∙ length_up 0 (length fs) in
      let small : length row ≤ 1024 = omega (arith, a.few) in
      let one : 0 < length row = rw starts (omega arith) in
      record {
        same_x = simp length-map;
        same_y = simp length-map;
        some = simp length-map one;
        few = simp length-map small;
        first = rw starts (mod_twice (get_or fs 0 0) ∙ a.first);
        apart = rw starts (apart_from (length fs - 1) 1 0 (omega (arith, a.some)) (λ off l. absurd (true≢false (sym a.first ∙ off))));
      }

  -- ---- none of it is idle

  few_kept : (p : ℕ) → length (kept xs ys fs p) ≤ 1
  few_kept p = by (beside_of xs ys fs p)
    where
      by : (w : ℕ) → length (kept_at w p) ≤ 1
      by zero = omega arith
      by (suc w) = omega arith

  kept_stays : (p : ℕ) → 0 < length (kept xs ys fs p) → beside_of xs ys fs p ≡ 0
  kept_stays p h = by (beside_of xs ys fs p) refl h
    where
      by : (w : ℕ) → beside_of xs ys fs p ≡ w → 0 < length (kept_at w p) → beside_of xs ys fs p ≡ 0
      by zero e l = e
      by (suc w) e l = absurd (omega arith)

  abbrev was : ℕ → ℕ
  was = number xs ys fs row

  still : (i : ℕ) → i < length row → beside_of xs' ys' fs' i ≡ 0
  unfolding beside_of
  still i h = by (seen xs ys fs p)
    where
      there : Found (kept xs ys fs) (length fs) i
      there = find (kept xs ys fs) few_kept (length fs) i h

      p : ℕ
      p = there.p

      stay : beside_of xs ys fs p ≡ 0
      stay = kept_stays p there.some

      at : was i ≡ p
      at =
          ap (λ (k : ℕ). get_or row k (past xs ys fs row)) (sym there.index)
          ∙ stands (kept xs ys fs) (length fs) p there.below p (kept_there xs ys fs p stay) (past xs ys fs row)

      size : length fs' ≡ length row
      size = simp length-map

      next : count (kept xs ys fs) (suc p) ≡ i + 1
      next = stays xs ys fs p stay ∙ ap (λ (n : ℕ). n + 1) there.index

      before_was : on_place fs p ≡ false → was (before_of i (length fs')) ≡ before_of p (length fs)
      before_was off =
          let b = before_kept xs ys fs a p (past xs ys fs row) there.below off in
          let i-is = there.index in
          rw (lt-ltb 0 i (omega (arith, b.some))) (rw there.index at b.stands_there)

      after_was : on_place fs p ≡ false → was (after_of i (length fs')) ≡ after_of p (length fs)
      after_was off = rw size (rw next at (after_kept xs ys fs a p (past xs ys fs row) there.below off))

      by : Seen xs ys fs p (beside_of xs ys fs p) → beside_of xs' ys' fs' i ≡ 0
      by (on_curve_lem z o) = rw (on_as xs ys fs row i, at, o)
      by (free z off f g) =
          not_idle (on_place fs' i) (same_place xs' ys' i (before_of i (length fs'))) (same_place xs' ys' i (after_of i (length fs')))
          (equal_as xs ys fs row i (before_of i (length fs')) ∙ rw (at, before_was off) f)
          (equal_as xs ys fs row i (after_of i (length fs')) ∙ rw (at, after_was off) g)
      by (by_before z off f) = absurd (omega (arith, stay))
      by (by_after z off f) = absurd (omega (arith, stay))

  nothing_more : idle_of xs' ys' fs' ≡ cleaned (up_from 0 (length row)) []
  nothing_more =
      let size : length fs' ≡ length row = simp length-map in
      let none : (i : ℕ) → i < 0 + length row → beside_of xs' ys' fs' i ≡ 0 = λ i h. still i (omega arith) in
      rw (size, all_kept (beside_of xs' ys' fs') 0 (length row) none, none_listed (beside_of xs' ys' fs') 0 (length row) none)

pub twice : TwiceDropsNothing
twice xs ys fs kept drops c =
    let is = c.is in
    let same_kept : kept_of (beside_of xs ys fs) (places_of fs) ≡ kept = cc in
    let a = accepted xs ys fs c.fine in
    rw (← same_kept) (record { fine = judged_fine (accepted_left a); twice = nothing_more a })
