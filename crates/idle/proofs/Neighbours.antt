-- Which points are idle; the neighbours of an off-curve point; and where these stand among the points kept. Assumes nothing.
use Prim.Native.Nat.{ℕ, zero, suc, ◌+◌, ◌-◌, ◌≤◌, ◌<◌}
use mathlib.Core.Bool.{Bool, true, false, true≢false}
use mathlib.Core.List.{List, [], ◌∷◌}
use mathlib.Core.Path.{◌≡◌, refl, sym, ap, ◌∙◌}
use native.Mathlib.Numerals.{add-one}
use native.Mathlib.Omega.{arith}
use borrow.Author.Tests.{lt-ltb, le-ltb, ltb-true, ltb-false}
use lib.Dec.{ltb}
use lib.IntN.{ℤ}
use lib.ListN.{length, get_or}
use Rattle.refusals.specs.Accepted.{Accepted, accepted, next_on}
use Rattle.clean.specs.Clean.{on_place, same_place, or_else}
use Rattle.clean.specs.Pass.{pick_number, after_of}
use Rattle.idle.specs.Idle.{before_of, beside_of, kept_at, listed_at, kept_of, places_of}
use Rattle.idle.specs.Statements.{Neighbours, NeighboursOn}
use Rattle.idle.proofs.Places.{count, count_none, count_more, stands, inside}

module _ (xs ys : List ℤ) (fs : List ℕ) where
  abbrev pub beside : ℕ → ℕ
  beside = beside_of xs ys fs

  abbrev pub is_before : ℕ → Bool
  is_before p = same_place xs ys p (before_of p (length fs))

  abbrev pub is_after : ℕ → Bool
  is_after p = same_place xs ys p (after_of p (length fs))

  -- ---- by what a point is or is not idle

  pub data Seen (p w : ℕ) : Type 0 where
    on_curve_lem : w ≡ 0 → on_place fs p ≡ true → Seen p w
    free : w ≡ 0 → on_place fs p ≡ false → is_before p ≡ false → is_after p ≡ false → Seen p w
    by_before : w ≡ 1 → on_place fs p ≡ false → is_before p ≡ true → Seen p w
    by_after : w ≡ 2 → on_place fs p ≡ false → is_after p ≡ true → Seen p w

  pub seen : (p : ℕ) → Seen p (beside p)
  unfolding beside_of
  seen p = by (on_place fs p) (is_before p) (is_after p) refl refl refl
    where
      by : (o b a : Bool) → on_place fs p ≡ o → is_before p ≡ b → is_after p ≡ a → Seen p (or_else o 0 (or_else b 1 (or_else a 2 0)))
      by true b a e f g = on_curve_lem refl e
      by false true a e f g = by_before refl e f
      by false false true e f g = by_after refl e g
      by false false false e f g = free refl e f g

  pub on_stays : (p : ℕ) → on_place fs p ≡ true → beside p ≡ 0
  unfolding beside_of
  on_stays p h = rw h

  -- ---- what is kept and what is listed of a place

  abbrev pub kept : ℕ → List ℕ
  kept p = kept_at (beside p) p

  abbrev pub listed : ℕ → List (List ℕ)
  listed p = listed_at (beside p) p

  pub kept_there : (p : ℕ) → beside p ≡ 0 → kept p ≡ p ∷ []
  kept_there p h = rw h

  pub stays : (p : ℕ) → beside p ≡ 0 → count kept (suc p) ≡ count kept p + 1
  stays p h = count_more kept p ∙ ap (λ (s : List ℕ). count kept p + length s) (kept_there p h)

  pub goes : (p w : ℕ) → beside p ≡ suc w → count kept (suc p) ≡ count kept p
  goes p w h =
      let none : length (kept p) ≡ 0 = rw h in
      omega (arith, count_more kept p)

  -- ---- a contour that 1 to 5 let through

  module _ (a : Accepted xs ys fs) where
    before_on : (q : ℕ) → suc q < length fs → on_place fs (suc q) ≡ false → on_place fs q ≡ true
    before_on q h off = by (on_place fs q) refl
      where
        by : (b : Bool) → on_place fs q ≡ b → on_place fs q ≡ true
        by true e = e
        by false e = absurd (true≢false (sym (next_on fs q a.apart h e) ∙ off))

    pub after_on : (p : ℕ) → p + 1 < length fs → on_place fs p ≡ false → on_place fs (p + 1) ≡ true
    after_on p h off = rw (add-one p) (next_on fs p a.apart (omega arith) off)

    before_is : (q : ℕ) → before_of (suc q) (length fs) ≡ q
    before_is q =
        let e : suc q - 1 ≡ q = omega arith in
        rw (lt-ltb 0 (suc q) (omega arith), e)

    pub neighbours : (p : ℕ) → p < length fs → on_place fs p ≡ false → Neighbours fs p
    neighbours zero h off = absurd (true≢false (sym a.first ∙ off))
    neighbours (suc q) h off = record { before = rw (before_is q) (before_on q h off); after = by (ltb (suc q + 1) (length fs)) refl }
      where
        by : (b : Bool) → ltb (suc q + 1) (length fs) ≡ b → on_place fs (after_of (suc q) (length fs)) ≡ true
        by true e = rw e (after_on (suc q) (ltb-true (suc q + 1) (length fs) e) off)
        by false e = rw e a.first

    -- ---- where the neighbours of an off-curve point stand among the points kept

    abbrev kept_row : List ℕ
    kept_row = kept_of beside (places_of fs)

    pub place_of : (p z : ℕ) → p < length fs → on_place fs p ≡ true → get_or kept_row (count kept p) z ≡ p
    place_of p z h o = stands kept (length fs) p h p (kept_there p (on_stays p o)) z

    -- how many are kept before it, and which is the last of these
    pub record Before (p z : ℕ) : Type 0 where
      pub some : 0 < count kept p
      pub stands_there : get_or kept_row (count kept p - 1) z ≡ before_of p (length fs)

    pub before_kept : (p z : ℕ) → p < length fs → on_place fs p ≡ false → Before p z
    before_kept zero z h off = absurd (true≢false (sym a.first ∙ off))
    before_kept (suc q) z h off =
        let o = before_on q h off in
        let one = stays q (on_stays q o) in
        let less : count kept (suc q) - 1 ≡ count kept q = omega arith in
        record { some = omega arith; stands_there = rw (less, before_is q) (place_of q z (omega arith) o) }

    -- the next that is kept, going round
    pub after_kept : (p z : ℕ) → p < length fs → on_place fs p ≡ false →
        get_or kept_row (pick_number (ltb (count kept (suc p)) (length kept_row)) (count kept (suc p)) 0) z ≡ after_of p (length fs)
    after_kept p z h off = by (ltb (p + 1) (length fs)) refl
      where
        by : (b : Bool) → ltb (p + 1) (length fs) ≡ b →
            get_or kept_row (pick_number (ltb (count kept (suc p)) (length kept_row)) (count kept (suc p)) 0) z ≡ after_of p (length fs)
        by true e =
            let l = ltb-true (p + 1) (length fs) e in
            let o : on_place fs (suc p) ≡ true = next_on fs p a.apart (omega arith) off in
            let n : p + 1 ≡ suc p = omega arith in
            rw (e, n, lt-ltb (count kept (suc p)) (length kept_row) (inside kept (length fs) (suc p) (omega arith) (suc p) (kept_there (suc p) (on_stays (suc p) o))))
            (place_of (suc p) z (omega arith) o)
        by false e =
            let l = ltb-false (p + 1) (length fs) e in
            let n : length fs ≡ suc p = omega arith in
            let whole : length kept_row ≤ count kept (suc p) = rw n (omega arith) in
            rw (e, le-ltb (count kept (suc p)) (length kept_row) whole)
            (ap (λ (k : ℕ). get_or kept_row k z) (sym (count_none kept)) ∙ place_of 0 z a.some a.first)

pub neighbours_on : NeighboursOn
neighbours_on xs ys fs p fine h off = neighbours xs ys fs (accepted xs ys fs fine) p h off
