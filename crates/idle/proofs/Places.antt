-- Rows of places, and what is gathered of them: how much came before a place, and what stands there. Assumes nothing.
use Prim.Native.Nat.{ℕ, zero, suc, ◌+◌, ◌-◌, ◌≤◌, ◌<◌}
use mathlib.Core.Bool.{Bool, true, false}
use mathlib.Core.List.{List, [], ◌∷◌, ◌++◌, append_assoc, append-nil}
use mathlib.Core.Path.{◌≡◌, refl, sym, ap, ◌∙◌}
use native.Mathlib.Omega.{arith}
use borrow.Author.Tests.{ltb-true, ltb-false}
use lib.Dec.{ltb}
use lib.ListN.{length, get_or, length-append}
use lib.Seq.{get_or_at}
use Rattle.clean.specs.Clean.{up_from}
use Rattle.idle.specs.Idle.{gathered}

-- ---- places in order

pub up_split : (k a b : ℕ) → up_from k (a + b) ≡ up_from k a ++ up_from (k + a) b
unfolding up_from
up_split k zero b =
    let e : k + 0 ≡ k = omega arith in
    let f : 0 + b ≡ b = omega arith in
    rw (e, f)
up_split k (suc a) b =
    let e : k + 1 + a ≡ k + suc a = omega arith in
    let f : suc a + b ≡ suc (a + b) = omega arith in
    rw f (ap (◌∷◌ k) (up_split (k + 1) a b ∙ ap (λ (n : ℕ). up_from (k + 1) a ++ up_from n b) e))

pub up_last : (n : ℕ) → up_from 0 (suc n) ≡ up_from 0 n ++ (n ∷ [])
unfolding up_from
up_last n =
    let e : suc n ≡ n + 1 = omega arith in
    let f : 0 + n ≡ n = omega arith in
    ap (up_from 0) e ∙ up_split 0 n 1 ∙ ap (λ (k : ℕ). up_from 0 n ++ up_from k 1) f

-- ---- what is gathered of them

module _ {A : Type 0} (f : ℕ → List A) where
  gathered_append : (a b : List ℕ) → gathered f (a ++ b) ≡ gathered f a ++ gathered f b
  unfolding gathered
  gathered_append [] b = refl
  gathered_append (p ∷ a) b = ap (◌++◌ (f p)) (gathered_append a b) ∙ sym (append_assoc (f p) (gathered f a) (gathered f b))

  -- before place p
  abbrev pub count : ℕ → ℕ
  count p = length (gathered f (up_from 0 p))

  pub count_none : count 0 ≡ 0
  unfolding up_from gathered
  count_none = refl

  pub count_more : (p : ℕ) → count (suc p) ≡ count p + length (f p)
  unfolding gathered
  count_more p =
      ap (λ (row : List ℕ). length (gathered f row)) (up_last p)
      ∙ ap length (gathered_append (up_from 0 p) (p ∷ []))
      ∙ length-append (gathered f (up_from 0 p)) (f p ++ [])
      ∙ ap (λ (s : List A). count p + length s) (append-nil (f p))

  split : (n p : ℕ) → p < n → gathered f (up_from 0 n) ≡ gathered f (up_from 0 p) ++ (f p ++ gathered f (up_from (p + 1) (n - suc p)))
  unfolding up_from gathered
  split n p h =
      let e : n ≡ p + suc (n - suc p) = omega arith in
      let z : 0 + p ≡ p = omega arith in
      ap (λ (m : ℕ). gathered f (up_from 0 m)) e
      ∙ ap (gathered f) (up_split 0 p (suc (n - suc p)) ∙ ap (λ (k : ℕ). up_from 0 p ++ up_from k (suc (n - suc p))) z)
      ∙ gathered_append (up_from 0 p) (p ∷ up_from (p + 1) (n - suc p))

  module _ (n p : ℕ) (h : p < n) (v : A) (e : f p ≡ v ∷ []) where
    one_there : gathered f (up_from 0 n) ≡ gathered f (up_from 0 p) ++ (v ∷ gathered f (up_from (p + 1) (n - suc p)))
    one_there = split n p h ∙ ap (λ (s : List A). gathered f (up_from 0 p) ++ (s ++ gathered f (up_from (p + 1) (n - suc p)))) e

    pub stands : (z : A) → get_or (gathered f (up_from 0 n)) (count p) z ≡ v
    stands z = rw one_there (get_or_at (gathered f (up_from 0 p)) v (gathered f (up_from (p + 1) (n - suc p))) z (count p) refl)

    pub inside : count p < count n
    inside = omega (arith, ap length one_there ∙ length-append (gathered f (up_from 0 p)) (v ∷ gathered f (up_from (p + 1) (n - suc p))))

  -- what stands at place i of it came of a place p
  pub record Found (n i : ℕ) : Type 0 where
    pub p : ℕ
    pub below : p < n
    pub index : count p ≡ i
    pub some : 0 < length (f p)

  pub find : ((p : ℕ) → length (f p) ≤ 1) → (n i : ℕ) → i < count n → Found n i
  find few zero i h = absurd (omega (arith, count_none))
  find few (suc n) i h = by (ltb i (count n)) refl (find few n i)
    where
      by : (b : Bool) → ltb i (count n) ≡ b → (i < count n → Found n i) → Found (suc n) i
      by true e earlier =
          let r = earlier (ltb-true i (count n) e) in
          record { p = r.p; below = omega (arith, r.below); index = r.index; some = r.some }
      by false e earlier =
          let least = ltb-false i (count n) e in
          record { p = n; below = omega arith; index = omega (arith, count_more n, few n); some = omega (arith, count_more n) }
