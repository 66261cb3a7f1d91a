-- The parts of a line, found one after the other. Assumes nothing.
use Rattle.std.proofs.Common.{ℕ, suc, ◌+◌, ◌-◌, ◌≤◌, ◌<◌, Bool, true, false, not, List, [], ◌∷◌, ◌≡◌, refl, sym, ◌∙◌, arith, ltb-true, ltb-false, lt-ltb, le-leb, eqb, leb, ltb, length, take, drop, length-drop, drop-drop, cond, Option, Some, None}
use borrow.Author.Tests.{lt-leb}
use Rattle.std.specs.List.{position_or_len}
use Rattle.std.proofs.lemmas.List.Recursion.{is_position_or_len}
use Rattle.std.proofs.lemmas.List.Sums.{prefix_len-le-length}
use Rattle.lines.specs.Line.{before, split, until, up_to}
use Rattle.lines.specs.Steps.{words_if, words_from}

-- ---- the first stop

length-until : (t : Bool) (b : ℕ) (bs : List ℕ) → length (until t b bs) ≡ cond t 0 (1 + length bs)
length-until true b bs = refl
length-until false b bs = omega arith

module _ (stop : ℕ) (l : List ℕ) where
  -- where a search from i ends
  abbrev pub end_from : ℕ → ℕ
  end_from i = i + length (up_to stop (drop i l))

  length-up_to : length (up_to stop l) ≡ position_or_len (λ b. eqb b stop) l
  unfolding up_to
  length-up_to = is_position_or_len (λ m. length (up_to stop m)) (λ b. eqb b stop) refl (λ b bs. length-until (eqb b stop) b (up_to stop bs)) l

  -- what `position` gives
  module _ {r : Option ℕ} (e : r ≡ cond (ltb (position_or_len (λ b. eqb b stop) l) (length l)) (Some (position_or_len (λ b. eqb b stop) l)) None) where
    pub found : (k : ℕ) → r ≡ Some k → k ≡ length (up_to stop l)
    found k h = by (ltb (position_or_len (λ b. eqb b stop) l) (length l)) e
      where
        by : (t : Bool) → r ≡ cond t (Some (position_or_len (λ b. eqb b stop) l)) None → k ≡ length (up_to stop l)
        by true e' = cc length-up_to
        by false e' = cc

    pub missed : r ≡ None → length l ≡ length (up_to stop l)
    missed h = by (ltb (position_or_len (λ b. eqb b stop) l) (length l)) refl e
      where
        by : (t : Bool) → ltb (position_or_len (λ b. eqb b stop) l) (length l) ≡ t → r ≡ cond t (Some (position_or_len (λ b. eqb b stop) l)) None → length l ≡ length (up_to stop l)
        by true n e' = cc
        by false n e' =
            let past = ltb-false (position_or_len (λ b. eqb b stop) l) (length l) n in
            let most = prefix_len-le-length (λ b. not (eqb b stop)) l in
            omega (arith, length-up_to)

-- ---- one part

-- two tests that say the same
same_test : (a b c d : ℕ) → (a < b → c ≤ d) → (b ≤ a → d < c) → ltb a b ≡ leb c d
same_test a b c d up down = by (ltb a b) refl
  where
    by : (t : Bool) → ltb a b ≡ t → t ≡ leb c d
    by true h = sym (le-leb c d (up (ltb-true a b h)))
    by false h = sym (lt-leb c d (down (ltb-false a b h)))

ltb_suc : (a b : ℕ) → ltb (suc a) (suc b) ≡ ltb a b
ltb_suc a b = same_test (suc a) (suc b) (suc a) b (λ h. omega arith) (λ h. omega arith) ∙ sym (same_test a b (suc a) b (λ h. omega arith) (λ h. omega arith))

-- the first part is the bytes up to the first stop, and the others are those after it
abbrev pub parted_at : ℕ → List ℕ → ℕ → List (List ℕ)
parted_at stop l n = take n l ∷ words_if (ltb n (length l)) (split stop (drop (suc n) l))

pub parted : (stop : ℕ) (l : List ℕ) → split stop l ≡ parted_at stop l (length (up_to stop l))
unfolding split up_to
parted stop [] = refl
parted stop (b ∷ bs) = by (eqb b stop) (parted stop bs)
  where
    by : (t : Bool) → split stop bs ≡ parted_at stop bs (length (up_to stop bs)) →
        before t b (split stop bs) ≡ parted_at stop (b ∷ bs) (length (until t b (up_to stop bs)))
    by true later = rw (lt-ltb 0 (suc (length bs)) (omega arith))
    by false later =
        let n = length (up_to stop bs) in
        rw (later, ltb_suc n (length bs)) refl

module _ (line : List ℕ) (at e : ℕ) (inside : at ≤ length line) (ends : e ≡ at + length (up_to 32 (drop at line))) where
  -- the word that ends at e, and those after it
  pub word : words_from line at ≡ take (e - at) (drop at line) ∷ words_from line (e + 1)
  unfolding words_from
  word =
      let n : length (up_to 32 (drop at line)) ≡ e - at = omega arith in
      let past-it : at + suc (e - at) ≡ e + 1 = omega arith in
      rw (le-leb _ _ inside, parted 32 (drop at line), n, drop-drop, past-it, length-drop, same_test (e - at) (length line - at) (e + 1) (length line) (λ h. omega arith) (λ h. omega arith)) refl

pub no_word : (line : List ℕ) (at : ℕ) → length line < at → words_from line at ≡ []
unfolding words_from
no_word line at h = rw (lt-leb _ _ h)
