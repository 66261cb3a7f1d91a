-- Words in bytes, and parts of the bytes laid at the front of a row. Assumes nothing.
use Prim.Native.Nat.{ℕ, zero, suc, ◌+◌, ◌-◌, ◌*◌, ◌≤◌, ◌<◌}
use mathlib.Core.Bool.{true, false}
use mathlib.Core.List.{List}
use mathlib.Core.Path.{◌≡◌, refl, sym, ap, ◌∙◌}
use native.Mathlib.Omega.{arith}
use lib.ListN.{length, get_or, take, drop, length-drop, length-take}
use native.Mathlib.Nat.{le_antisymm}
use Rattle.rows.proofs.Filled.{Filled, filled}
use lib.Seq.{get_or-take, get_or-drop, take-length}
use Rattle.glyf.specs.Layout.{count_of, rising}
use Rattle.glyfread.specs.Steps.{word_at, words_at}
use Rattle.glyf.specs.Layout.{laid}
use Rattle.glyf.proofs.Rises.{rise_end, rise_stops, rise_goes, no_points_lem, some_points}

-- ---- words

pub length_words : (bs : List ℕ) (at n : ℕ) → length (words_at bs at n) ≡ n
unfolding words_at
length_words bs at zero = refl
length_words bs at (suc n) = ap suc (length_words bs (at + 2) n)

pub word_is : (bs : List ℕ) (at n i : ℕ) → i < n → get_or (words_at bs at n) i 0 ≡ word_at bs (at + 2 * i)
unfolding words_at
word_is bs at zero i h = absurd (omega arith)
word_is bs at (suc n) zero h = let e : at + 2 * 0 ≡ at = omega arith in rw e
word_is bs at (suc n) (suc i) h = let e : at + 2 * suc i ≡ at + 2 + 2 * i = omega arith in rw e (word_is bs (at + 2) n i (omega arith))

-- ---- a part of the bytes

module _ (bs : List ℕ) (at n : ℕ) (fits : at + n ≤ length bs) where
  pub length_part : length (take n (drop at bs)) ≡ n
  length_part = simp (length-take, length-drop) (omega arith)

  pub part_is : (i : ℕ) → i < n → get_or bs (at + i) 0 ≡ get_or (take n (drop at bs)) i 0
  part_is i h = rw (get_or-take, get_or-drop)

pub laid_all : {A : Type 0} {s l m : List A} {i : ℕ} → Filled s l m i → length s ≤ i → m ≡ laid s l
laid_all {A} {s} {l} {m} {i} f h = filled (length s) f (le_antisymm f.given h) ∙ rw take-length

-- ---- words that rise

module _ (bs : List ℕ) (at n i : ℕ) where
  abbrev ws : List ℕ
  ws = words_at bs at n

  pub words_end : n ≤ i → true ≡ rising (drop (i - 1) (words_at bs at n))
  words_end h = rise_end ws i (rw length_words h)

  module _ (low : 1 ≤ i) (h : i < n) {v w : ℕ} (e : v ≡ word_at bs (at + 2 * i)) (d : w ≡ word_at bs (at + 2 * i - 2)) where
    within : i < length ws
    within = rw length_words h

    this : v ≡ get_or ws i 0
    this = e ∙ sym (word_is bs at n i h)

    last : w ≡ get_or ws (i - 1) 0
    last =
        let p : at + 2 * i - 2 ≡ at + 2 * (i - 1) = omega arith in
        d ∙ rw p (sym (word_is bs at n (i - 1) (omega arith)))

    pub words_stop : v ≤ w → rising (drop (i - 1) (words_at bs at n)) ≡ false
    words_stop t = rise_stops ws i low within (rw (← this, ← last) t)

    pub words_go : w < v → rising (drop (i - 1) (words_at bs at n)) ≡ rising (drop (i + 1 - 1) (words_at bs at n))
    words_go t = rise_goes ws i low within (rw (← this, ← last) t)

-- ---- the number of points, from the last word

pub none_at : (bs : List ℕ) (n : ℕ) → n ≡ 0 → 0 ≡ count_of (words_at bs 10 n)
none_at bs n e = no_points_lem (words_at bs 10 n) (length_words bs 10 n ∙ e)

pub count_at : (bs : List ℕ) (n : ℕ) → (n ≡ 0 → ⊥) → {v w : ℕ} → v ≡ word_at bs (8 + 2 * n) → w ≡ v → w + 1 ≡ count_of (words_at bs 10 n)
count_at bs n some {v} {w} e d =
    let place : 10 + 2 * (n - 1) ≡ 8 + 2 * n = omega (arith, some) in
    let last = word_is bs 10 n (n - 1) (omega (arith, some)) in
    let size = length_words bs 10 n in
    let known = some_points (words_at bs 10 n) (λ z. some (sym size ∙ z)) in
    d_e place last size known
  where
    d_e : 10 + 2 * (n - 1) ≡ 8 + 2 * n → get_or (words_at bs 10 n) (n - 1) 0 ≡ word_at bs (10 + 2 * (n - 1)) → length (words_at bs 10 n) ≡ n →
        get_or (words_at bs 10 n) (length (words_at bs 10 n) - 1) 0 + 1 ≡ count_of (words_at bs 10 n) → w + 1 ≡ count_of (words_at bs 10 n)
    d_e place last size known = ap (λ (k : ℕ). k + 1) (d ∙ e ∙ ap (word_at bs) (sym place) ∙ sym last ∙ ap (λ (k : ℕ). get_or (words_at bs 10 n) (k - 1) 0) (sym size)) ∙ known
