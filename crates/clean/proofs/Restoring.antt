-- What the entry's rows hold while drops are put back. Assumes nothing.
use Prim.Native.Nat.{ℕ, zero, suc, min, ◌+◌, ◌-◌, ◌≤◌, ◌<◌}
use mathlib.Core.Bool.{Bool, true, false}
use mathlib.Core.List.{List, [], ◌∷◌, map}
use mathlib.Core.Path.{◌≡◌, refl, sym, ap, ◌∙◌}
use native.Mathlib.Nat.{le_of_suc-le-suc, le_refl}
use native.Mathlib.Omega.{arith}
use borrow.Author.Tests.{ne_eqb, leb-true, leb-false}
use lib.Dec.{eqb, leb}
use lib.ListN.{length, get_or, set, take, drop, length-map, get_or-map}
use lib.Seq.{take_all, take_at, drop-cons, drop-length}
use Rattle.rows.proofs.Filled.{Filled, more, filled}
use Rattle.clean.specs.Clean.{up_from}
use Rattle.clean.specs.PutBack.{number_of, why_of, insert_at, restored, put_back, mark_for, copied_spot, kept_spot, spots_of}
use Rattle.clean.specs.Determine.{length_up}
use Rattle.clean.proofs.Inserting.{insert_end}

-- ---- one drop

module _ (kept n place why : ℕ) (row : List (List ℕ)) (size : length row ≡ n) where
  pub first_in_lem : {s v : List ℕ} {m : ℕ} → why ≡ 3 → s ≡ get_or row 0 (kept_spot kept) → m ≡ mark_for (eqb why 2) → v ≡ get_or s 0 0 ∷ m ∷ [] →
      insert_at n v row ≡ restored copied_spot (kept_spot kept) place why row
  first_in_lem h s m v = insert_end row _ n (rw size (le_refl n)) ∙ rw (v, m, s, h)

  pub least_same : (v : List ℕ) → insert_at (min place n) v row ≡ insert_at place v row
  least_same v = by (leb place n) refl
    where
      by : (b : Bool) → leb place n ≡ b → insert_at (min place n) v row ≡ insert_at place v row
      by true e = let h = leb-true place n e in (let q : min place n ≡ place = omega arith in rw q)
      by false e =
          let h = leb-false place n e in
          let q : min place n ≡ n = omega arith in
          rw q (insert_end row v n (rw size (le_refl n)) ∙ sym (insert_end row v place (omega arith)))

  pub other_in : {s v : List ℕ} {m p q : ℕ} → (why ≡ 3 → ⊥) → p ≡ place - 1 → s ≡ get_or row p (kept_spot kept) → q ≡ min place n → m ≡ mark_for (eqb why 2) → v ≡ get_or s 0 0 ∷ m ∷ [] →
      insert_at q v row ≡ restored copied_spot (kept_spot kept) place why row
  other_in h p s q m v = rw (q, v, m, s, p, ne_eqb why 3 h) (least_same _)

-- ---- numbers in order

get_d_up : (k n i z : ℕ) → i < n → get_or (up_from k n) i z ≡ k + i
unfolding up_from
get_d_up k zero i z h = absurd (omega arith)
get_d_up k (suc n) zero z h = omega arith
get_d_up k (suc n) (suc i) z h = get_d_up (k + 1) n i z (le_of_suc-le-suc h) ∙ omega arith

-- a row that is given something of each number
module _ {A : Type 0} (f : ℕ → A) (n : ℕ) {l m : List A} {i : ℕ} (r : Filled (map f (up_from 0 n)) l m i) where
  size_up : length (map f (up_from 0 n)) ≡ n
  size_up = length-map (up_from 0 n) f ∙ length_up 0 n

  pub number_more : {v : A} → i < n → n ≤ length l → v ≡ f i → Filled (map f (up_from 0 n)) l (set m i v) (i + 1)
  number_more {v} h k e =
      more (f 0) v r (omega (arith, r.same)) (rw size_up h) (e ∙ sym (get_or-map f (up_from 0 n) i 0 ∙ ap f (get_d_up 0 n i 0 h ∙ omega arith)))

  pub number_all : n ≤ i → take n m ≡ map f (up_from 0 n)
  number_all h =
      rw (filled n r (omega (arith, r.given, size_up)), take_all n (map f (up_from 0 n)) (rw size_up (le_refl n)))
      (take_at (map f (up_from 0 n)) (drop n l) n size_up)

-- ---- all drops

module _ (kept : ℕ) (list : List (List ℕ)) where
  abbrev back_from : ℕ → List (List ℕ) → List (List ℕ)
  back_from j row = put_back copied_spot (kept_spot kept) j (drop j list) row

  pub record Restoring (start row : List (List ℕ)) (n j : ℕ) : Type 0 where
    pub same : length row ≡ length start
    pub low : j ≤ length list
    pub all : n + j ≡ kept + length list
    pub is : take n row ≡ back_from j (take kept start)

  pub begin : (start : List (List ℕ)) → Restoring start start kept (length list)
  unfolding put_back
  begin start = record { same = refl; low = le_refl (length list); all = refl; is = rw (drop-length list) }

  pub more_back : {start row row' : List (List ℕ)} {n j p : ℕ} → Restoring start row n j → 0 < j → length row' ≡ length row →
      p ≡ number_of (get_or list (j - 1) []) - (j - 1) →
      take (n + 1) row' ≡ restored copied_spot (kept_spot kept) p (why_of (get_or list (j - 1) [])) (take n row) → Restoring start row' (n + 1) (j - 1)
  unfolding put_back
  more_back {start} {row} {row'} {n} {j} {p} r h same_row place e =
      let i = j - 1 in
      let d = get_or list i [] in
      let first = take kept start in
      let above : j ≡ suc i = omega arith in
      let one : i + 1 ≡ j = omega arith in
      record {
        same = same_row ∙ r.same;
        low = omega (arith, r.low);
        all = omega (arith, r.all);
        is =
            e ∙ rw (place, r.is)
            (ap (λ (k : ℕ). restored copied_spot (kept_spot kept) (number_of d - i) (why_of d) (put_back copied_spot (kept_spot kept) j (drop k list) first)) above
            ∙ ap (λ (k : ℕ). restored copied_spot (kept_spot kept) (number_of d - i) (why_of d) (put_back copied_spot (kept_spot kept) k (drop (suc i) list) first)) (sym one)
            ∙ ap (λ (l : List (List ℕ)). put_back copied_spot (kept_spot kept) i l first) (sym (drop-cons list i [] (omega (arith, r.low)))));
      }

  pub ended : {start row : List (List ℕ)} {n j : ℕ} → Restoring start row n j → j ≤ 0 → take (kept + length list) row ≡ put_back copied_spot (kept_spot kept) 0 list (take kept start)
  ended {start} {row} {n} {j} r h =
      let none : j ≡ 0 = omega arith in
      let total : kept + length list ≡ n = omega (arith, r.all) in
      rw total (r.is ∙ rw none)

-- ---- the entry

pub spots_are : (n : ℕ) (list : List (List ℕ)) {kept row : List (List ℕ)} → row ≡ put_back copied_spot (kept_spot n) 0 list kept → kept ≡ map kept_spot (up_from 0 n) → row ≡ spots_of n list
unfolding spots_of
spots_are n list all first = rw (all, first)
