-- The rows that a pass fills, point by point. Assumes nothing.
use Prim.Native.Nat.{ℕ, zero, suc, ◌+◌, ◌-◌, ◌≤◌, ◌<◌}
use mathlib.Core.Bool.{Bool}
use mathlib.Core.List.{List, [], ◌∷◌}
use mathlib.Core.Path.{◌≡◌, refl, sym, ap, ◌∙◌}
use native.Mathlib.Nat.{le_refl}
use native.Mathlib.Numerals.{add-one}
use native.Mathlib.Omega.{arith}
use borrow.Author.Tests.{lt-ltb, le-ltb}
use lib.ListN.{length, set, length-set}
use lib.Seq.{take-suc-set, take-set-le}
use Rattle.clean.specs.Clean.{next_in, up_from}
use Rattle.clean.specs.Pass.{going, step_of, repeats, passing, after_of, start_of, Roomy, numbered_as, held_in, Stands}
use Rattle.clean.specs.declared.Passed.{Passed}

-- ---- a point is kept or dropped

module _ (i : ℕ) (kept : List ℕ) (gone : List (List ℕ)) (at : Passed) (k : at.kept < length kept) (d : at.dropped < length gone) where
  -- both rows are given the point; it counts in one of them
  stored : (w : ℕ) → held_in (set kept at.kept i) (set gone at.dropped (i ∷ w ∷ [])) (numbered_as w i at) ≡ step_of w i (held_in kept gone at)
  stored zero = rw (add-one at.kept, take-suc-set kept at.kept i k, take-set-le at.dropped gone at.dropped (i ∷ 0 ∷ []) (le_refl at.dropped))
  stored (suc w) =
      rw (add-one at.dropped, take-suc-set gone at.dropped (i ∷ suc w ∷ []) d, take-set-le at.kept kept at.kept i (le_refl at.kept))

-- ---- the numbers left

next_is : (i n m : ℕ) → i + 1 + m ≡ n → next_in 0 (up_from (i + 1) m) ≡ after_of i n
unfolding up_from
next_is i n zero e = rw (le-ltb (i + 1) n (omega arith))
next_is i n (suc m) e = rw (lt-ltb (i + 1) n (omega arith))

pub up_more : (i n : ℕ) → i < n → up_from i (n - i) ≡ i ∷ up_from (i + 1) (n - (i + 1))
unfolding up_from
up_more i n h = let e : n - i ≡ suc (n - (i + 1)) = omega arith in rw e

pub up_end : (i n : ℕ) → n ≤ i → up_from i (n - i) ≡ []
unfolding up_from
up_end i n h = let e : n - i ≡ 0 = omega arith in rw e

-- ---- the loop

-- place 0 is written before it
pub still_roomy : (kept : List ℕ) {n g : ℕ} → Roomy n (length kept) g → Roomy n (length (set kept 0 0)) g
still_roomy kept r = record { some = r.some; few = r.few; kept = rw length-set r.kept; gone = r.gone }

module _ (on : ℕ → Bool) (equal : ℕ → ℕ → Bool) (n : ℕ) where
  -- i points are passed
  pub record Passing (kept₀ : List ℕ) (gone₀ : List (List ℕ)) (kept : List ℕ) (gone : List (List ℕ)) (at : Passed) (i : ℕ) : Type 0 where
    pub same_kept : length kept ≡ length kept₀
    pub same_gone : length gone ≡ length gone₀
    pub high : i ≤ n
    pub some : 1 ≤ at.kept
    pub inside : at.last < i
    pub all : at.kept + at.dropped ≡ i
    pub is : passing on equal 0 (held_in kept gone at) (up_from i (n - i)) ≡ passing on equal 0 start_of (up_from 1 (n - 1))

  pub start : (kept : List ℕ) (gone : List (List ℕ)) → Roomy n (length kept) (length gone) →
      Passing (set kept 0 0) gone (set kept 0 0) gone (record { last = 0; kept = 1; dropped = 0 }) 1
  start kept gone r =
      record {
        same_kept = refl;
        same_gone = refl;
        high = r.some;
        some = omega arith;
        inside = omega arith;
        all = refl;
        is = ap (λ (s : List ℕ). passing on equal 0 (going 0 s []) (up_from 1 (n - 1))) (take-suc-set kept 0 0 (omega (arith, r.some, r.kept)));
      }

  module _ {kept₀ : List ℕ} {gone₀ : List (List ℕ)} {kept : List ℕ} {gone : List (List ℕ)} {at : Passed} {i : ℕ}
      (room : Roomy n (length kept₀) (length gone₀)) (p : Passing kept₀ gone₀ kept gone at i) where
    pub kept_room : i < n → at.kept < length kept
    kept_room h = omega (arith, p.all, p.same_kept, room.kept)

    pub gone_room : i < n → at.dropped < length gone
    gone_room h = omega (arith, p.some, p.all, p.same_gone, room.gone)

    kept_more : (w : ℕ) → 1 ≤ (numbered_as w i at).kept
    kept_more zero = omega arith
    kept_more (suc w) = p.some

    inside_more : (w : ℕ) → (numbered_as w i at).last < i + 1
    inside_more zero = omega arith
    inside_more (suc w) = omega (arith, p.inside)

    all_more : (w : ℕ) → (numbered_as w i at).kept + (numbered_as w i at).dropped ≡ i + 1
    all_more zero = omega (arith, p.all)
    all_more (suc w) = omega (arith, p.all)

    pub more : (w : ℕ) {at' : Passed} → i < n → w ≡ repeats on equal 0 at.last i (after_of i n) → at' ≡ numbered_as w i at →
        Passing kept₀ gone₀ (set kept at.kept i) (set gone at.dropped (i ∷ w ∷ [])) at' (i + 1)
    unfolding passing
    more w h e is =
        rw is
        (record {
          same_kept = length-set kept at.kept i ∙ p.same_kept;
          same_gone = length-set gone at.dropped (i ∷ w ∷ []) ∙ p.same_gone;
          high = omega arith;
          some = kept_more w;
          inside = inside_more w;
          all = all_more w;
          is =
              rw (stored i kept gone at (kept_room h) (gone_room h) w, e, ← (next_is i n (n - (i + 1)) (omega arith)))
              (sym (ap (passing on equal 0 (held_in kept gone at)) (up_more i n h)) ∙ p.is);
        })

    pub end : n ≤ i → Stands n kept gone at (passing on equal 0 start_of (up_from 1 (n - 1)))
    unfolding passing
    end h =
        record {
          some = p.some;
          inside = omega (arith, p.inside, p.high);
          all = omega (arith, p.all, p.high);
          is = sym (ap (passing on equal 0 (held_in kept gone at)) (up_end i n h)) ∙ p.is;
        }
