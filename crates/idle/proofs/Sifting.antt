-- The rows that `sift` fills, point by point. Assumes nothing.
use Prim.Native.Nat.{ℕ, zero, suc, ◌+◌, ◌-◌, ◌≤◌, ◌<◌}
use mathlib.Core.List.{List, [], ◌∷◌, ◌++◌, append-nil}
use mathlib.Core.Path.{◌≡◌, refl, sym, ap, ◌∙◌}
use native.Mathlib.Nat.{le_refl}
use native.Mathlib.Numerals.{add-one}
use native.Mathlib.Omega.{arith}
use lib.ListN.{length, set, take, length-set}
use lib.Seq.{take-suc-set, take-set-le, append_snoc}
use Rattle.clean.specs.Clean.{cleaned, up_from}
use Rattle.clean.specs.Pass.{counted_as, Roomy}
use Rattle.clean.proofs.Passing.{up_more, up_end}
use Rattle.idle.specs.Idle.{gathered, kept_at, listed_at, kept_of, list_of, Sifted}
use Rattle.clean.specs.declared.Cleaned.{Cleaned}

-- ---- a point is kept or dropped

-- both rows are given the point; it counts in one of them
module _ (i : ℕ) (at : Cleaned) where
  stored_kept : (kept rest : List ℕ) → at.kept < length kept → (w : ℕ) →
      take (counted_as w at).kept (set kept at.kept i) ++ rest ≡ take at.kept kept ++ (kept_at w i ++ rest)
  stored_kept kept rest h zero = rw (add-one at.kept, take-suc-set kept at.kept i h) (append_snoc (take at.kept kept) i rest)
  stored_kept kept rest h (suc w) = rw (take-set-le at.kept kept at.kept i (le_refl at.kept))

  stored_gone : (gone rest : List (List ℕ)) → at.dropped < length gone → (w : ℕ) →
      take (counted_as w at).dropped (set gone at.dropped (i ∷ w ∷ [])) ++ rest ≡ take at.dropped gone ++ (listed_at w i ++ rest)
  stored_gone gone rest h zero = rw (take-set-le at.dropped gone at.dropped (i ∷ 0 ∷ []) (le_refl at.dropped))
  stored_gone gone rest h (suc w) =
      rw (add-one at.dropped, take-suc-set gone at.dropped (i ∷ suc w ∷ []) h) (append_snoc (take at.dropped gone) (i ∷ suc w ∷ []) rest)

  counted_all : (w : ℕ) → (counted_as w at).kept + (counted_as w at).dropped ≡ at.kept + at.dropped + 1
  counted_all zero = omega arith
  counted_all (suc w) = omega arith

-- ---- the loop

module _ (beside : ℕ → ℕ) (n : ℕ) where
  -- i points are passed
  pub record Sifting (kept₀ : List ℕ) (gone₀ : List (List ℕ)) (kept : List ℕ) (gone : List (List ℕ)) (at : Cleaned) (i : ℕ) : Type 0 where
    pub same_kept : length kept ≡ length kept₀
    pub same_gone : length gone ≡ length gone₀
    pub high : i ≤ n
    pub all : at.kept + at.dropped ≡ i
    pub keeps : take at.kept kept ++ kept_of beside (up_from i (n - i)) ≡ kept_of beside (up_from 0 n)
    pub lists : take at.dropped gone ++ list_of beside (up_from i (n - i)) ≡ list_of beside (up_from 0 n)

  pub start : (kept : List ℕ) (gone : List (List ℕ)) → Sifting kept gone kept gone (record { kept = 0; dropped = 0 }) 0
  start kept gone =
      let e : n - 0 ≡ n = omega arith in
      record { same_kept = refl; same_gone = refl; high = omega arith; all = refl; keeps = rw e; lists = rw e }

  module _ {kept₀ : List ℕ} {gone₀ : List (List ℕ)} {kept : List ℕ} {gone : List (List ℕ)} {at : Cleaned} {i : ℕ}
      (room : Roomy n (length kept₀) (length gone₀)) (p : Sifting kept₀ gone₀ kept gone at i) where
    pub kept_room : i < n → at.kept < length kept
    kept_room h = omega (arith, p.all, p.same_kept, room.kept)

    pub gone_room : i < n → at.dropped < length gone
    gone_room h = omega (arith, p.all, p.same_gone, room.gone)

    pub more : (w : ℕ) {at' : Cleaned} → i < n → w ≡ beside i → at' ≡ counted_as w at →
        Sifting kept₀ gone₀ (set kept at.kept i) (set gone at.dropped (i ∷ w ∷ [])) at' (i + 1)
    unfolding gathered
    more w h e is =
        let rest = up_from (i + 1) (n - (i + 1)) in
        rw is
        (record {
          same_kept = length-set kept at.kept i ∙ p.same_kept;
          same_gone = length-set gone at.dropped (i ∷ w ∷ []) ∙ p.same_gone;
          high = omega arith;
          all = counted_all i at w ∙ ap (λ (k : ℕ). k + 1) p.all;
          keeps =
              stored_kept i at kept (kept_of beside rest) (kept_room h) w
              ∙ rw e (sym (ap (λ (row : List ℕ). take at.kept kept ++ kept_of beside row) (up_more i n h)) ∙ p.keeps);
          lists =
              stored_gone i at gone (list_of beside rest) (gone_room h) w
              ∙ rw e (sym (ap (λ (row : List ℕ). take at.dropped gone ++ list_of beside row) (up_more i n h)) ∙ p.lists);
        })

    pub end : n ≤ i → Sifted kept gone at (cleaned (kept_of beside (up_from 0 n)) (list_of beside (up_from 0 n)))
    unfolding gathered
    end h =
        let none = up_end i n h in
        let k : take at.kept kept ≡ kept_of beside (up_from 0 n) =
        sym (append-nil (take at.kept kept)) ∙ (rw none at p.keeps) in
        let d : take at.dropped gone ≡ list_of beside (up_from 0 n) =
        sym (append-nil (take at.dropped gone)) ∙ (rw none at p.lists) in
        record {
          kept_in = omega (arith, p.all, p.high, p.same_kept, room.kept);
          dropped_in = omega (arith, p.all, p.high, p.same_gone, room.gone);
          is = rw (k, d);
        }
