-- The loops of the pass, one turn each: the steps over a quad, the ends of segments, the search among them, and the breaks that are named. Assumes nothing.
use Prim.Native.Nat.{ℕ, zero, suc, ◌+◌, ◌-◌, ◌≤◌, ◌<◌}
use native.Mathlib.Nat.{le_refl}
use native.Mathlib.Numerals.{add-one}
use native.Mathlib.Omega.{arith}
use mathlib.Core.Bool.{true, false}
use mathlib.Core.List.{List, [], ◌∷◌, ◌++◌, map, append_assoc, append-nil}
use mathlib.Core.Path.{◌≡◌, refl, sym, ap, ◌∙◌}
use lib.IntN.{ℤ}
use lib.ListN.{length, get_or, take, drop, set, length-set, length-map, drop_of_length-le}
use lib.Seq.{drop-cons, take-suc-set, take_all, drop-length}
use lib.Ieee.{Float, nan, binary64, add, le}
use Rattle.float.specs.Numbers.{nought}
use Rattle.geometry.specs.declared.Quad.{Quad}
use Rattle.rows.proofs.Filled.{Filled, more, filled}
use Rattle.arclen.specs.Arclen.{hundredth, arclen_functor_of}
use Rattle.arclen.specs.One.{StepsOne}
use Rattle.arclen.specs.declared.ArclenFunctor.{ArclenFunctor}
use Rattle.arclen.proofs.Laws.{stepped_one}
use Rattle.outline.specs.Segments.{end_of, seg_from}
use Rattle.samples.specs.Samples.{quad_of, quads_from, length_from, length_after}
use Rattle.segments.specs.Segments.{ends_from, first_holding}
use Rattle.segments.specs.Laws.{get_d_mapped}

-- ---- 100 steps over a quad, of which k are done

pub record Stepping (f : ArclenFunctor) (y : Float) (t at : Float) (k : ℕ) : Type 0 where
  pub len : length_from 100 f nought y ≡ length_from (100 - k) f t at

module _ {f : ArclenFunctor} {y : Float} {t at : Float} {k : ℕ} (s : Stepping f y t at k) where
  pub steps : {next : Float} → k < 100 → StepsOne f hundredth t at next → Stepping f y (add binary64 t hundredth) next (k + 1)
  unfolding length_from
  steps h step =
      let one_less : 100 - k ≡ suc (100 - (k + 1)) = omega arith in
      record { len = s.len ∙ rw (one_less, ← stepped_one f hundredth t at step) refl }

  pub stepped : (q : Quad) → 100 ≤ k → f ≡ arclen_functor_of q → at ≡ length_after q y
  unfolding length_from
  stepped q h is =
      let none : 100 - k ≡ 0 = omega arith in
      sym (s.len ∙ rw none) ∙ ap (λ (g : ArclenFunctor). length_from 100 g nought y) is

-- ---- the ends of n segments, of which k are written

module _ (xs ys : List ℤ) (fs : List ℕ) (all : List Quad) (n : ℕ) where
  pub record Ending (long : ℕ) (ends : List Float) (a : ℕ) (y : Float) (k : ℕ) : Type 0 where
    pub same : length ends ≡ long
    pub fits : n ≤ long
    pub few : k ≤ n
    pub is : ends_from all nought ≡ take k ends ++ ends_from (quads_from xs ys fs a (n - k)) y

  pub ends_start : (ends : List Float) {a : ℕ} → n ≤ length ends → all ≡ quads_from xs ys fs a n → Ending (length ends) ends a nought 0
  ends_start ends fits e =
      let none : n - 0 ≡ n = omega arith in
      record { same = refl; fits = fits; few = omega arith; is = rw (e, none) refl }

  module _ {long : ℕ} {ends : List Float} {a : ℕ} {y : Float} {k : ℕ} (s : Ending long ends a y k) where
    pub ends_more : {q : Quad} {z : Float} {b : ℕ} → k < n → q ≡ quad_of (seg_from xs ys fs a) → z ≡ length_after q y → b ≡ end_of fs a →
        Ending long (set ends k z) b z (k + 1)
    unfolding ends_from quads_from
    ends_more {q} {z} {b} h is after next =
        let one_less : n - k ≡ suc (n - (k + 1)) = omega arith in
        let low : k < length ends = omega (arith, s.same, s.fits) in
        record {
          same = length-set ends k z ∙ s.same;
          fits = s.fits;
          few = omega arith;
          is = s.is ∙ rw (one_less, ← is, ← next, ← after, add-one k, take-suc-set ends k z low, append_assoc) refl;
        }

    pub ends_all : n ≤ k → take n ends ≡ ends_from all nought
    unfolding ends_from quads_from
    ends_all h =
        let none : n - k ≡ 0 = omega arith in
        let all_done : k ≡ n = omega (arith, s.few) in
        sym (s.is ∙ rw (none, all_done) (append-nil (take n ends)))

-- ---- the first end that holds the length s, after k that do not

pub record Passing (ends : List Float) (s : Float) (k : ℕ) : Type 0 where
  pub within : k ≤ length ends
  pub is : first_holding ends s ≡ k + first_holding (drop k ends) s

pub pass_start : (ends : List Float) (s : Float) → Passing ends s 0
pass_start ends s = record { within = omega arith; is = omega arith }

module _ {ends : List Float} {s : Float} {k : ℕ} (p : Passing ends s k) where
  pub pass_here : k < length ends → le s (get_or ends k nan) ≡ true → k ≡ first_holding ends s
  unfolding first_holding
  pass_here h e = sym (p.is ∙ rw (drop-cons ends k nan h, e) (omega arith))

  pub pass_more : k < length ends → le s (get_or ends k nan) ≡ false → Passing ends s (k + 1)
  unfolding first_holding
  pass_more h e = record { within = omega arith; is = p.is ∙ rw (drop-cons ends k nan h, e, add-one k) (omega arith) }

  pub pass_end : length ends ≤ k → length ends ≡ first_holding ends s
  unfolding first_holding
  pass_end h = sym (p.is ∙ rw (drop_of_length-le ends h) (omega (arith, p.within)))

-- ---- each place of a row, made another

module _ {A : Type 0} (f : A → A) (z : A) (row₀ : List A) where
  abbrev pub Making : List A → ℕ → Type 0
  Making row i = Filled (map f row₀) row₀ row i

  -- place i is as it was
  as_it_was : (s l : List A) (i : ℕ) → i ≤ length s → i < length l → get_or (take i s ++ drop i l) i z ≡ get_or l i z
  as_it_was s [] i k h = absurd (omega arith)
  as_it_was [] (y ∷ l) zero k h = refl
  as_it_was (x ∷ s) (y ∷ l) zero k h = refl
  as_it_was [] (y ∷ l) (suc i) k h = absurd (omega arith)
  as_it_was (x ∷ s) (y ∷ l) (suc i) k h = as_it_was s l i (omega arith) (omega arith)

  pub make_more : {row : List A} {i : ℕ} {v : A} → Making row i → i < length row → v ≡ f (get_or row i z) → Making (set row i v) (i + 1)
  make_more {row} {i} {v} m h e =
      let low : i < length row₀ = omega (arith, m.same) in
      let here : get_or row i z ≡ get_or row₀ i z = rw m.is (as_it_was (map f row₀) row₀ i m.given low) in
      more (f z) v m h (rw (length-map row₀ f) low) (e ∙ ap f here ∙ sym (get_d_mapped f row₀ i z (f z) low))

  pub make_all : {row : List A} {i : ℕ} → Making row i → length row ≤ i → row ≡ map f row₀
  make_all {row} {i} m h =
      let all : i ≡ length row₀ = omega (arith, m.same, m.within) in
      filled (length row₀) m all
      ∙ rw (take_all (length row₀) (map f row₀) (rw (length-map row₀ f) (le_refl (length row₀))), drop-length row₀) (append-nil (map f row₀))
