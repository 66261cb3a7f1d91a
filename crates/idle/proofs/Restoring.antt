-- What `put_all` fills, place by place. Assumes nothing.
use Prim.Native.Nat.{ℕ, zero, suc, ◌+◌, ◌-◌, ◌≤◌, ◌<◌}
use mathlib.Core.Bool.{Bool, true, false, ◌||◌}
use mathlib.Core.List.{List}
use mathlib.Core.Path.{◌≡◌, refl, ap, ◌∙◌}
use native.Mathlib.Numerals.{add-one}
use native.Mathlib.Omega.{arith}
use borrow.Author.Tests.{ltb-true, lt-ltb, le-ltb, eq-eqb, ne_eqb}
use lib.Dec.{eqb, ltb, leb}
use lib.ListN.{length, set, take}
use Rattle.rows.proofs.Filled.{Filled}
use Rattle.rows.proofs.Filled as Row
use Rattle.clean.specs.Pass.{pick_number}
use Rattle.clean.specs.PutBack.{number_of}
use Rattle.clean.proofs.Shortcut.{both_hold}
use Rattle.clean.proofs.Restoring.{number_more, number_all}
use Rattle.idle.specs.PutBack.{drop_at, is_back, spot_at, passed_as, passed_to, spot_of, spots_of}

module _ (n : ℕ) (list : List (List ℕ)) where
  -- ---- one place

  pub back_there : (p j : ℕ) → is_back n list p j ≡ true → j < length list
  back_there p j h = ltb-true j (length list) (both_hold (ltb j (length list)) (eqb (number_of (drop_at n list j)) p || leb n (p - j)) h).0

  pub no_drop : (p j : ℕ) → length list ≤ j → false ≡ is_back n list p j
  no_drop p j h = rw (le-ltb j (length list) h)

  pub named : (p j : ℕ) → j < length list → number_of (drop_at n list j) ≡ p → true ≡ is_back n list p j
  named p j h e = rw (lt-ltb j (length list) h, eq-eqb (number_of (drop_at n list j)) p e)

  pub by_room : (p j : ℕ) → j < length list → (number_of (drop_at n list j) ≡ p → ⊥) → leb n (p - j) ≡ is_back n list p j
  by_room p j h e = rw (lt-ltb j (length list) h, ne_eqb (number_of (drop_at n list j)) p e)

  -- ---- the drops before a place are no more than the places

  at_most : (b : Bool) (j : ℕ) → pick_number b (j + 1) j ≤ j + 1
  at_most true j = omega arith
  at_most false j = omega arith

  passed_low : (p : ℕ) → passed_to n list p ≤ p
  unfolding passed_to
  passed_low zero = omega arith
  passed_low (suc p) = omega (arith, passed_low p, at_most (is_back n list p (passed_to n list p)) (passed_to n list p))

  -- ---- the loop

  -- p places are filled
  pub record Putting (m : ℕ) (spots₀ spots : List (List ℕ)) (j p : ℕ) : Type 0 where
    pub fills : Filled (spots_of n list m) spots₀ spots p
    pub passed : j ≡ passed_to n list p

  pub start : (m : ℕ) (spots : List (List ℕ)) → Putting m spots spots 0 0
  unfolding passed_to
  start m spots = record { fills = Row.start (spots_of n list m) spots; passed = refl }

  module _ {m : ℕ} {spots₀ spots : List (List ℕ)} {j p : ℕ} (r : Putting m spots₀ spots j p) where
    pub low : j ≤ p
    low = rw r.passed (passed_low p)

    pub more : {v : List ℕ} {j' : ℕ} → p < m → m ≤ length spots₀ → v ≡ spot_at n list p j → j' ≡ passed_as n list p j → Putting m spots₀ (set spots p v) j' (p + 1)
    unfolding passed_to
    more h k e f =
        record {
          fills = number_more (spot_of n list) m r.fills h k (e ∙ ap (spot_at n list p) r.passed);
          passed = f ∙ rw (r.passed, add-one p);
        }

    pub all : m ≤ p → take m spots ≡ spots_of n list m
    all h = number_all (spot_of n list) m r.fills h
