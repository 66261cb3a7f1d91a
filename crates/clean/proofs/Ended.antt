-- What dropping the lowest place first comes to, by the definition alone: none remains; no two neighbours are off-curve; every point not listed
-- is kept in order. Assumes nothing.
use Prim.Native.Nat.{ℕ, zero, suc, ◌+◌, ◌≤◌, ◌<◌}
use mathlib.Core.Bool.{Bool, true, false}
use mathlib.Core.List.{List, [], ◌∷◌}
use mathlib.Core.Path.{◌≡◌, refl, sym, ap}
use native.Mathlib.Omega.{arith}
use borrow.Author.Tests.{eq-eqb, ne_eqb}
use lib.ListN.{length}
use Rattle.clean.specs.Clean.{Look, none, gone, behind, at_place, Cleaning, cleaned, listing, unless_none, reason, lowest, dropping}
use Rattle.clean.specs.Statements.{without, unlisted}
use Rattle.clean.proofs.Shortcut.{before_on, Apart, end, on_next, skip_one, next_on, later}

-- rising numbers, all above the one before
pub data Rising : ℕ → List ℕ → Type 0 where
  no_more : {b : ℕ} → Rising b []
  above : {b p : ℕ} {rest : List ℕ} → b < p → Rising p rest → Rising b (p ∷ rest)

lower : {b c : ℕ} {rest : List ℕ} → c ≤ b → Rising b rest → Rising c rest
lower h no_more = no_more
lower {b} {c} h (above {p = p} g r) = above {b = c} {p = p} (omega arith) r

not_in : {b k : ℕ} {rest : List ℕ} → k ≤ b → Rising b rest → without k rest ≡ rest
unfolding without
not_in h no_more = refl
not_in {b} {k} h (above {p = p} g r) = rw (ne_eqb p k (λ e. omega arith), not_in {k = k} (omega arith) r)

-- ---- one look

module _ (on : ℕ → Bool) (equal : ℕ → ℕ → Bool) (p0 : ℕ) where
  abbrev look : ℕ → List ℕ → Look
  look = lowest on equal p0

  -- what is left of a rest after the number k has gone from it
  record Found (b : ℕ) (rest row : List ℕ) (k : ℕ) : Type 0 where
    pub shorter : suc (length row) ≡ length rest
    pub higher : b < k
    pub is : row ≡ without k rest
    pub rising : Rising b row
    pub apart : Apart on b row

  apart_without : (b p : ℕ) (rest : List ℕ) (w : ℕ) → reason on equal p0 b p rest ≡ suc w → Apart on b (p ∷ rest) → Apart on b rest
  apart_without b p [] w h a = end
  apart_without b p (q ∷ rest) w h a = skip_one on (before_on (on p) (on b) (equal p b) (equal p q) w (next_on on a) h) a

  -- p itself
  here : {b p : ℕ} {rest row : List ℕ} {k w w' : ℕ} → reason on equal p0 b p rest ≡ suc w' → Rising b (p ∷ rest) → Apart on b (p ∷ rest) →
      gone rest p (suc w') ≡ gone row k w → Found b (p ∷ rest) row k
  unfolding without
  here {b} {p} {rest} {row} {k} {w} {w'} h (above g r) a e =
      let left : rest ≡ row = cc in
      let at : p ≡ k = cc in
      rw (← left, ← at)
      (record {
        shorter = refl;
        higher = g;
        is = rw (eq-eqb p p refl) (sym (not_in {k = p} (omega arith) r));
        rising = lower (omega arith) r;
        apart = apart_without b p rest w' h a;
      })

  -- a later one
  there : {b p : ℕ} {rest row row' : List ℕ} {k k' w w' : ℕ} → b < p → (on b ≡ false → on p ≡ true) → Found p rest row' k' →
      gone (p ∷ row') k' w' ≡ gone row k w → Found b (p ∷ rest) row k
  unfolding without
  there {b} {p} {rest} {row} {row'} {k} {k'} g a f e =
      let left : p ∷ row' ≡ row = cc in
      let at : k' ≡ k = cc in
      rw (← left, ← at)
      (record {
        shorter = ap suc f.shorter;
        higher = omega (arith, f.higher);
        is = rw (ne_eqb p k' (λ e. omega (arith, f.higher))) (ap (◌∷◌ p) f.is);
        rising = above g f.rising;
        apart = on_next a f.apart;
      })

  never : {A : Type 0} {row : List ℕ} {k w : ℕ} → none ≡ gone row k w → A
  never e = let z : ◌≡◌ {A = ℕ} 0 1 = cc in absurd (omega arith)

  abbrev Finds : List ℕ → Type 0
  Finds rest = (b : ℕ) (row : List ℕ) (k w : ℕ) → Rising b rest → Apart on b rest → look b rest ≡ gone row k w → Found b rest row k

  later_look : (p : ℕ) (rest : List ℕ) → Finds rest → (b : ℕ) (row : List ℕ) (k w : ℕ) → Rising b (p ∷ rest) → Apart on b (p ∷ rest) →
      (l : Look) → look p rest ≡ l → behind p l ≡ gone row k w → Found b (p ∷ rest) row k
  later_look p rest finds b row k w r a none h e = never e
  later_look p rest finds b row k w (above g r) a (gone row' k' w') h e = there g (next_on on a) (finds p row' k' w' r (later on a) h) e

  this_look : (p : ℕ) (rest : List ℕ) → Finds rest → (b : ℕ) (row : List ℕ) (k w : ℕ) → Rising b (p ∷ rest) → Apart on b (p ∷ rest) →
      (n : ℕ) → reason on equal p0 b p rest ≡ n → at_place n p rest (look p rest) ≡ gone row k w → Found b (p ∷ rest) row k
  this_look p rest finds b row k w r a zero h e = later_look p rest finds b row k w r a (look p rest) refl e
  this_look p rest finds b row k w r a (suc n) h e = here h r a e

  finds : (rest : List ℕ) → Finds rest
  unfolding lowest
  finds [] b row k w r a e = never e
  finds (p ∷ rest) b row k w r a e = this_look p rest (finds rest) b row k w r a (reason on equal p0 b p rest) refl e

  -- ---- all looks

  -- the rest that is left, and the list
  pub record Ended (rest kept : List ℕ) (drops : List (List ℕ)) : Type 0 where
    pub quiet : look p0 kept ≡ none
    pub shorter : length kept + length drops ≡ length rest
    pub is : kept ≡ unlisted drops rest
    pub apart : Apart on p0 kept

  -- the answer is some such row, with place 0 before it
  pub record Ends (rest : List ℕ) (c : Cleaning) : Type 0 where
    pub kept : List ℕ
    pub drops : List (List ℕ)
    pub is : c ≡ cleaned (p0 ∷ kept) drops
    pub ended : Ended rest kept drops

  one_more : {rest row : List ℕ} {k : ℕ} (w : ℕ) {c : Cleaning} → Found p0 rest row k → Ends row c → Ends rest (listing k w c)
  unfolding unlisted
  one_more {rest} {row} {k} w f e =
      record {
        kept = e.kept;
        drops = (k ∷ w ∷ []) ∷ e.drops;
        is = ap (listing k w) e.is;
        ended =
            record {
              quiet = e.ended.quiet;
              shorter = omega (arith, e.ended.shorter, f.shorter);
              is = rw (← f.is) e.ended.is;
              apart = e.ended.apart;
            };
      }

  stops : (rest : List ℕ) → look p0 rest ≡ none → Apart on p0 rest → Ends rest (cleaned (p0 ∷ rest) [])
  unfolding unlisted
  stops rest h a = record { kept = rest; drops = []; is = refl; ended = record { quiet = h; shorter = omega arith; is = refl; apart = a } }

  by_look : (n : ℕ) → ((rest : List ℕ) → length rest ≤ n → Rising p0 rest → Apart on p0 rest → Ends rest (dropping on equal p0 n rest)) →
      (rest : List ℕ) → length rest ≤ suc n → Rising p0 rest → Apart on p0 rest → (l : Look) → look p0 rest ≡ l →
      Ends rest (unless_none p0 rest l (dropping on equal p0 n))
  by_look n then rest few r a none h = stops rest h a
  by_look n then rest few r a (gone row k w) h =
      let f = finds rest p0 row k w r a h in
      one_more w f (then row (omega (arith, f.shorter)) f.rising f.apart)

  pub ends : (n : ℕ) (rest : List ℕ) → length rest ≤ n → Rising p0 rest → Apart on p0 rest → Ends rest (dropping on equal p0 n rest)
  unfolding dropping lowest
  ends zero [] few r a = stops [] refl a
  ends zero (p ∷ rest) few r a = absurd (omega arith)
  ends (suc n) rest few r a = by_look n (ends n) rest few r a (look p0 rest) refl
