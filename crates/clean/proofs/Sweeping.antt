-- From the pass to the definition: what is left when the last point has been looked at, and that an accepted contour is one that the shortcut
-- holds for. Assumes nothing.
use Prim.Native.Nat.{ℕ, zero, suc, ◌+◌, ◌-◌, ◌≤◌, ◌<◌}
use mathlib.Core.Bool.{Bool, true, false}
use mathlib.Core.List.{List, [], ◌∷◌}
use mathlib.Core.Path.{◌≡◌, refl, sym, ap, ◌∙◌}
use native.Mathlib.Nat.{le_refl}
use native.Mathlib.Numerals.{add-one}
use native.Mathlib.Omega.{arith}
use lib.IntN.{ℤ, pos}
use lib.ListN.{length, get_or, take, length-set}
use lib.Seq.{length-take-le, take-take, take-suc-set}
use Rattle.refusals.specs.Refusals.{off_neighbours}
use Rattle.refusals.specs.Accepted.{Accepted, next_on}
use Rattle.contour.specs.Implied.{same}
use Rattle.contour.proofs.Sixteen.{is_same, same_so}
use Rattle.clean.specs.Clean.{same_place, on_place, Cleaning, cleaned, up_from, clean_of}
use Rattle.clean.specs.Pass.{passing, close_if, closing, swept, start_of, Roomy, held_in, Stands, ends_first, closed_row, closed_at, Closed, Holds}
use Rattle.clean.specs.Determine.{length_up}
use Rattle.clean.specs.declared.Passed.{Passed}
use Rattle.clean.proofs.Shortcut.{both_hold, Apart, end, on_next, shortcut}

-- ---- equal places

module _ (xs ys : List ℤ) where
  abbrev x : ℕ → ℤ
  x k = get_or xs k (pos 0)

  abbrev y : ℕ → ℤ
  y k = get_or ys k (pos 0)

  pub place_is : (a b : ℕ) → same_place xs ys a b ≡ true → (x a ≡ x b) × (y a ≡ y b)
  place_is a b h =
      let both = both_hold (same (x a) (x b)) (same (y a) (y b)) h in
      (same_so (x a) (x b) both.0, same_so (y a) (y b) both.1)

  pub is_place : (a b : ℕ) → x a ≡ x b → y a ≡ y b → same_place xs ys a b ≡ true
  is_place a b e f = rw (is_same (x a) (x b) e, is_same (y a) (y b) f)

  pub back : (a b : ℕ) → same_place xs ys a b ≡ true → same_place xs ys b a ≡ true
  back a b h = let e = place_is a b h in is_place b a (sym e.0) (sym e.1)

  pub through : (a b c : ℕ) → same_place xs ys a b ≡ true → same_place xs ys b c ≡ true → same_place xs ys a c ≡ true
  through a b c h g = let e = place_is a b h in let f = place_is b c g in is_place a c (e.0 ∙ f.0) (e.1 ∙ f.1)

-- ---- no two neighbours off-curve

apart_from : (fs : List ℕ) → off_neighbours fs ≡ false → (n i : ℕ) → i + n < length fs → Apart (on_place fs) i (up_from (i + 1) n)
unfolding up_from
apart_from fs apart zero i h = end
apart_from fs apart (suc n) i h =
    on_next {p = i + 1} (λ off. rw (add-one i) (next_on fs i apart (omega arith) off)) (apart_from fs apart n (i + 1) (omega arith))

pub all_apart : (fs : List ℕ) → off_neighbours fs ≡ false → 0 < length fs → Apart (on_place fs) 0 (up_from 1 (length fs - 1))
all_apart fs apart some = apart_from fs apart (length fs - 1) 0 (omega arith)

-- ---- the whole pass gives the definition

pub sweeps : {xs ys : List ℤ} {fs : List ℕ} → Accepted xs ys fs → swept (on_place fs) (same_place xs ys) 0 (up_from 1 (length fs - 1)) ≡ clean_of xs ys fs (length fs - 1)
unfolding clean_of
sweeps {xs} {ys} {fs} a =
    sym (shortcut (on_place fs) (same_place xs ys) 0 (back xs ys) (through xs ys) (up_from 1 (length fs - 1)) (length fs - 1)
    (rw length_up (le_refl _)) (all_apart fs a.apart a.some))

-- ---- the last point

pub as_roomy : {n a b a' b' : ℕ} → Roomy n a b → a' ≡ a → b' ≡ b → Roomy n a' b'
as_roomy r e f = record { some = r.some; few = r.few; kept = rw e r.kept; gone = rw f r.gone }

module _ (on : ℕ → Bool) (equal : ℕ → ℕ → Bool) (kept : List ℕ) (gone : List (List ℕ)) (at : Passed)
    (few : at.kept ≤ length kept) (some : 1 ≤ at.kept) (room : at.dropped < length gone) where
  abbrev closed : Bool → Cleaning
  closed b = cleaned (take (closed_at b at).kept kept) (take (closed_at b at).dropped (closed_row b at gone))

  size : length (take at.kept kept) ≡ at.kept
  size = length-take-le at.kept kept few

  closed_by : (b : Bool) → closed b ≡ close_if on equal 0 b (held_in kept gone at)
  closed_by true = rw (size, take-take (at.kept - 1) at.kept kept (omega arith), add-one at.dropped, take-suc-set gone at.dropped (at.last ∷ 3 ∷ []) room)
  closed_by false = refl

  closes_is : closed (ends_first on equal at) ≡ closing on equal 0 (held_in kept gone at)
  closes_is = rw size (closed_by (ends_first on equal at))

module _ (xs ys : List ℤ) (fs kept : List ℕ) {gone gone' : List (List ℕ)} {at r : Passed} (a : Accepted xs ys fs) (room : Roomy (length fs) (length kept) (length gone))
    (s : Stands (length fs) kept gone at (passing (on_place fs) (same_place xs ys) 0 start_of (up_from 1 (length fs - 1))))
    (c : Closed (ends_first (on_place fs) (same_place xs ys) at) at gone gone' r) where
  counts_in : (b : Bool) → ((closed_at b at).kept ≤ length kept) × ((closed_at b at).dropped ≤ length gone)
  counts_in true = (omega (arith, s.all, room.kept), omega (arith, s.all, s.some, room.gone))
  counts_in false = (omega (arith, s.all, room.kept), omega (arith, s.all, room.gone))

  same_row : (b : Bool) → length (closed_row b at gone) ≡ length gone
  same_row true = length-set gone at.dropped (at.last ∷ 3 ∷ [])
  same_row false = refl

  pub held : Holds kept gone' r (clean_of xs ys fs (length fs - 1))
  held =
      let b = ends_first (on_place fs) (same_place xs ys) at in
      rw (c.row, c.counts)
      (record {
        kept_in = (counts_in b).0;
        dropped_in = rw (same_row b) (counts_in b).1;
        is =
            closes_is (on_place fs) (same_place xs ys) kept gone at (omega (arith, s.all, room.kept)) s.some (omega (arith, s.all, s.some, room.gone))
            ∙ ap (closing (on_place fs) (same_place xs ys) 0) s.is ∙ sweeps a;
      })
