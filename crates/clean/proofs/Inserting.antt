-- A point put in at a place: at a seam, and by changing places from the end down. Assumes nothing.
use Prim.Native.Nat.{ℕ, zero, suc, ◌+◌, ◌-◌, ◌≤◌, ◌<◌}
use mathlib.Core.List.{List, [], ◌∷◌, ◌++◌}
use mathlib.Core.Path.{◌≡◌, refl, sym, ap, ◌∙◌}
use native.Mathlib.Nat.{le_refl, le_of_suc-le-suc}
use native.Mathlib.Numerals.{add-one}
use native.Mathlib.Omega.{arith}
use lib.ListN.{length, get_or, set, take, length-set}
use lib.Seq.{take-suc-set, take-set-le, take-set-lt, get_or-take, length-take-le}
use Rattle.clean.specs.PutBack.{insert_at}

module _ {A : Type 0} where
  pub insert_seam : (a b : List A) (v : A) (n : ℕ) → length a ≡ n → insert_at n v (a ++ b) ≡ a ++ v ∷ b
  unfolding insert_at
  insert_seam [] b v zero e = refl
  insert_seam [] b v (suc n) e = absurd (omega arith)
  insert_seam (p ∷ a) b v zero e = absurd (omega arith)
  insert_seam (p ∷ a) b v (suc n) e = ap (◌∷◌ p) (insert_seam a b v n (omega arith))

  -- past the end is at the end
  pub insert_end : (a : List A) (v : A) (n : ℕ) → length a ≤ n → insert_at n v a ≡ a ++ (v ∷ [])
  unfolding insert_at
  insert_end [] v zero h = refl
  insert_end [] v (suc n) h = refl
  insert_end (p ∷ a) v zero h = absurd (omega arith)
  insert_end (p ∷ a) v (suc n) h = ap (◌∷◌ p) (insert_end a v n (le_of_suc-le-suc h))

  -- one place down
  down : (l : List A) (v : A) (i : ℕ) (z : A) → i < length l → set (set (insert_at (suc i) v l) (suc i) (get_or (insert_at (suc i) v l) i z)) i v ≡ insert_at i v l
  unfolding insert_at
  down [] v i z h = absurd (omega arith)
  down (p ∷ l) v zero z h = refl
  down (p ∷ l) v (suc i) z h = ap (◌∷◌ p) (down l v i z (le_of_suc-le-suc h))

-- ---- the loop: v stands at place i of n + 1

module _ (n : ℕ) (v : List ℕ) where
  pub record Moving (start row : List (List ℕ)) (i : ℕ) : Type 0 where
    pub same : length row ≡ length start
    pub high : i ≤ n
    pub is : take (n + 1) row ≡ insert_at i v (take n start)

  pub begin : (row : List (List ℕ)) → n < length row → Moving (set row n v) (set row n v) n
  begin row h =
      let size : length (take n row) ≡ n = length-take-le n row (omega arith) in
      record {
        same = refl;
        high = le_refl n;
        is =
            rw (add-one n, take-suc-set row n v h, take-set-le n row n v (le_refl n))
            (sym (insert_end (take n row) v n (rw size (le_refl n))));
      }

  module _ {start row : List (List ℕ)} {i : ℕ} (r : Moving start row i) where
    pub more : 0 < i → n < length start → Moving start (set (set row i (get_or row (i - 1) [])) (i - 1) v) (i - 1)
    more h room =
        let j = i - 1 in
        let above : i ≡ suc j = omega arith in
        let size : length (take n start) ≡ n = length-take-le n start (omega arith) in
        let there : get_or row j [] ≡ get_or (insert_at (suc j) v (take n start)) j [] =
        sym (get_or-take (n + 1) row j [] (omega (arith, r.high))) ∙ ap (λ (l : List (List ℕ)). get_or l j []) (r.is ∙ ap (λ (k : ℕ). insert_at k v (take n start)) above) in
        record {
          same = length-set (set row i (get_or row j [])) j v ∙ length-set row i (get_or row j []) ∙ r.same;
          high = omega (arith, r.high);
          is =
              take-set-lt (n + 1) (set row i (get_or row j [])) j v (omega (arith, r.high))
              ∙ ap (λ (l : List (List ℕ)). set l j v) (take-set-lt (n + 1) row i (get_or row j []) (omega (arith, r.high)))
              ∙ ap (λ (l : List (List ℕ)). set (set l i (get_or row j [])) j v) r.is
              ∙ ap (λ (k : ℕ). set (set (insert_at k v (take n start)) k (get_or row j [])) j v) above
              ∙ ap (λ (s : List ℕ). set (set (insert_at (suc j) v (take n start)) (suc j) s) j v) there
              ∙ down (take n start) v j [] (rw size (omega (arith, r.high)));
        }

  pub inside : (row : List (List ℕ)) {last : List (List ℕ)} {i : ℕ} → Moving (set row n v) last i → n < length row → i < length last
  inside row r h = omega (arith, r.same, r.high, length-set row n v)

  pub moved : (row : List (List ℕ)) {last : List (List ℕ)} {i q : ℕ} → Moving (set row n v) last i → q ≤ i → i ≤ q → take (n + 1) last ≡ insert_at q v (take n row)
  moved row {last} {i} {q} r low high =
      let e : i ≡ q = omega arith in
      r.is ∙ rw (e, take-set-le n row n v (le_refl n))
