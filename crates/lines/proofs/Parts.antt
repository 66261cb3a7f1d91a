-- The parts of a stream, one after the other, and a buffer that keeps the part under way. Assumes nothing.
use Prim.Native.Nat.{ℕ, zero, suc, ◌+◌, ◌≤◌, ◌<◌, min}
use mathlib.Core.Bool.{Bool, true, false}
use mathlib.Core.List.{List, [], ◌∷◌, ◌++◌, append_assoc}
use mathlib.Core.Path.{◌≡◌, refl, sym, ap, ◌∙◌}
use native.Mathlib.Omega.{arith}
use borrow.Author.Tests.{ltb-false}
use lib.Dec.{eqb, ltb}
use lib.ListN.{length, take, drop, length-take, length-append, drop_of_length-le}
use lib.Seq.{sets, take_all, take_at, drop-append-add, drop-append-le}
use Rattle.lines.specs.Line.{split, until, up_to}
use Rattle.lines.specs.Steps.{words_if}
use Rattle.lines.specs.Stream.{all_but_empty_last, ended_by}
use Rattle.lines.proofs.Words.{parted}
use Rattle.lines.proofs.Feeding.{prefix}
use Rattle.lines.proofs.Theorems.{past_first, rows}

-- ---- the first part

front : (p : List ℕ) {q : List ℕ} {parts later : List (List ℕ)} → later ≡ q ∷ parts → all_but_empty_last (p ∷ later) ≡ p ∷ all_but_empty_last later
unfolding all_but_empty_last
front p {q} {parts} e = ap (λ (l : List (List ℕ)). all_but_empty_last (p ∷ l)) e ∙ ap (λ (l : List (List ℕ)). p ∷ all_but_empty_last l) (sym e)

alone : (p : List ℕ) → 0 < length p → all_but_empty_last (p ∷ []) ≡ p ∷ []
unfolding all_but_empty_last
alone [] h = absurd (omega arith)
alone (b ∷ bs) h = refl

module _ (stop : ℕ) (l : List ℕ) where
  abbrev first_size : ℕ
  first_size = length (up_to stop l)

  abbrev after_first : List ℕ
  after_first = drop (suc first_size) l

  one_part : (t : Bool) → ltb first_size (length l) ≡ t → 0 < length l →
      all_but_empty_last (take first_size l ∷ words_if t (split stop after_first)) ≡ take first_size l ∷ all_but_empty_last (split stop after_first)
  unfolding split all_but_empty_last
  one_part true e some = front (take first_size l) (parted stop after_first)
  one_part false e some =
      let whole = ltb-false first_size (length l) e in
      let past : length l ≤ suc first_size = omega arith in
      let none_left : after_first ≡ [] = drop_of_length-le l past in
      alone (take first_size l) (rw (take_all first_size l whole) some) ∙ ap (λ (parts : List (List ℕ)). take first_size l ∷ parts) (rw none_left refl)

  -- of bytes that are not empty: up to the first stop, or all where there is none; then those after it
  pub next_part : 0 < length l → ended_by stop l ≡ up_to stop l ∷ ended_by stop (drop (suc (length (up_to stop l))) l)
  unfolding ended_by
  next_part some =
      ap all_but_empty_last (parted stop l) ∙ one_part (ltb first_size (length l)) refl some
      ∙ ap (λ (p : List ℕ). p ∷ all_but_empty_last (split stop after_first)) (prefix stop l)

pub no_part : (stop : ℕ) → ended_by stop [] ≡ []
unfolding ended_by split all_but_empty_last
no_part stop = refl

-- ---- a part under way, with no stop in it

-- it goes on with the first part of what comes
up_on : (stop : ℕ) (k l : List ℕ) → up_to stop k ≡ k → up_to stop (k ++ l) ≡ k ++ up_to stop l
unfolding up_to
up_on stop [] l h = refl
up_on stop (b ∷ k) l h = by (eqb b stop) h (λ e. up_on stop k l e)
  where
    by : (t : Bool) → until t b (up_to stop k) ≡ b ∷ k → (up_to stop k ≡ k → up_to stop (k ++ l) ≡ k ++ up_to stop l) → until t b (up_to stop (k ++ l)) ≡ b ∷ (k ++ up_to stop l)
    by true e later = let z : ◌≡◌ {A = ℕ} 0 (suc (length k)) = ap length e in absurd (omega arith)
    by false e later =
        let same : up_to stop k ≡ k = cc in
        ap (λ (bs : List ℕ). b ∷ bs) (later same)

-- a stop ends it, whatever comes after
up_in : (stop : ℕ) (l rest : List ℕ) → length (up_to stop l) < length l → up_to stop (l ++ rest) ≡ up_to stop l
unfolding up_to
up_in stop [] rest h = absurd (omega arith)
up_in stop (b ∷ l) rest h = by (eqb b stop) h (λ e. up_in stop l rest e)
  where
    by : (t : Bool) → length (until t b (up_to stop l)) < suc (length l) → (length (up_to stop l) < length l → up_to stop (l ++ rest) ≡ up_to stop l) →
        until t b (up_to stop (l ++ rest)) ≡ until t b (up_to stop l)
    by true h later = refl
    by false h later = ap (λ (bs : List ℕ). b ∷ bs) (later (omega arith))

-- where the search for a stop passes all bytes, there is none
up_all : (stop : ℕ) (l : List ℕ) → length l ≤ length (up_to stop l) → up_to stop l ≡ l
up_all stop l h = sym (prefix stop l) ∙ take_all (length (up_to stop l)) l h

pub none_in : (stop : ℕ) (k l : List ℕ) → up_to stop k ≡ k → length l ≤ length (up_to stop l) → up_to stop (k ++ l) ≡ k ++ l
none_in stop k l clean h = up_on stop k l clean ∙ ap (λ (bs : List ℕ). k ++ bs) (up_all stop l h)

pub none_in_front : (stop m : ℕ) (l : List ℕ) → up_to stop l ≡ l → up_to stop (take m l) ≡ take m l
unfolding up_to
none_in_front stop zero l h = refl
none_in_front stop (suc m) [] h = refl
none_in_front stop (suc m) (b ∷ l) h = by (eqb b stop) h (λ e. none_in_front stop m l e)
  where
    by : (t : Bool) → until t b (up_to stop l) ≡ b ∷ l → (up_to stop l ≡ l → up_to stop (take m l) ≡ take m l) → until t b (up_to stop (take m l)) ≡ b ∷ take m l
    by true e later = let z : ◌≡◌ {A = ℕ} 0 (suc (length l)) = ap length e in absurd (omega arith)
    by false e later =
        let same : up_to stop l ≡ l = cc in
        ap (λ (bs : List ℕ). b ∷ bs) (later same)

module _ (stop : ℕ) (k : List ℕ) (clean : up_to stop k ≡ k) where
  -- it is the front of the next part
  pub under_way : (rest : List ℕ) → 0 < length (k ++ rest) →
      ended_by stop (k ++ rest) ≡ (k ++ up_to stop rest) ∷ ended_by stop (drop (suc (length (up_to stop rest))) rest)
  under_way rest some =
      let n : suc (length (k ++ up_to stop rest)) ≡ length k + suc (length (up_to stop rest)) = simp length-append (omega arith) in
      next_part stop (k ++ rest) some
      ∙ ap (λ (p : List ℕ). p ∷ ended_by stop (drop (suc (length p)) (k ++ rest))) (up_on stop k rest clean)
      ∙ ap (λ (i : ℕ). (k ++ up_to stop rest) ∷ ended_by stop (drop i (k ++ rest))) n
      ∙ ap (λ (bs : List ℕ). (k ++ up_to stop rest) ∷ ended_by stop bs) (drop-append-add k rest (suc (length (up_to stop rest))))

  -- and that part itself, up to a stop
  pub whole_part : (l rest : List ℕ) → length (up_to stop l) < length l →
      ended_by stop ((k ++ l) ++ rest) ≡ (k ++ up_to stop l) ∷ ended_by stop (drop (suc (length (up_to stop l))) l ++ rest)
  whole_part l rest h =
      let some : 0 < length (k ++ (l ++ rest)) = simp (length-append, length-append) (omega arith) in
      ap (ended_by stop) (append_assoc k l rest) ∙ under_way (l ++ rest) some
      ∙ ap (λ (p : List ℕ). (k ++ p) ∷ ended_by stop (drop (suc (length p)) (l ++ rest))) (up_in stop l rest h)
      ∙ ap (λ (bs : List ℕ). (k ++ up_to stop l) ∷ ended_by stop bs) (drop-append-le (suc (length (up_to stop l))) l rest h)

-- ---- the buffer that keeps it

-- the bytes that a buffer holds after more were put behind those it held
pub keeps : {A : Type 0} (l x : List A) (i : ℕ) → i ≤ length l → take (min (i + length x) (length l)) (sets l i x) ≡ take (length l) (take i l ++ x)
keeps {A} [] x zero h =
    let n : min (0 + length x) 0 ≡ 0 = omega arith in
    ap (λ (k : ℕ). take k (sets {A = A} [] 0 x)) n
keeps [] x (suc i) h = absurd (omega arith)
keeps (a ∷ l) x zero h =
    let size : length (take (suc (length l)) x) ≡ min (0 + length x) (suc (length l)) = length-take (suc (length l)) x ∙ (let e : min (suc (length l)) (length x) ≡ min (0 + length x) (suc (length l)) = omega arith in e) in
    ap (take (min (0 + length x) (suc (length l)))) (rows (a ∷ l) x) ∙ take_at (take (suc (length l)) x) (drop (length x) (a ∷ l)) _ size
keeps {A} (a ∷ l) x (suc i) h =
    let n : min (suc i + length x) (suc (length l)) ≡ suc (min (i + length x) (length l)) = omega arith in
    ap (λ (k : ℕ). take k (sets (a ∷ l) (suc i) x)) n ∙ ap (take (suc (min (i + length x) (length l)))) (past_first x a l i)
    ∙ ap (λ (bs : List A). a ∷ bs) (keeps l x i (omega arith))
