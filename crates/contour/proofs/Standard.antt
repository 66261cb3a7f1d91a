-- Closed mode's test against the crate's and against OpenType, and that a point which goes is the one that OpenType has in its place. Assumes nothing.
use Prim.Native.Nat.{ℕ, zero, suc, ◌+◌, ◌-◌, ◌/◌, ◌%◌, ◌<◌}
use mathlib.Core.Bool.{Bool, true, false, not, ◌&&◌, false≢true}
use mathlib.Core.List.{List, [], ◌∷◌, ◌++◌}
use mathlib.Core.Path.{◌≡◌, refl, sym, ap, ◌∙◌}
use native.Mathlib.Nat.{mod-eq_of_lt, mod_self}
use native.Mathlib.Omega.{arith}
use borrow.Author.Tests.{eq-eqb, ne_eqb, eqb-true, eqb-false, ltb-true, ltb-false, not-true}
use lib.Dec.{eqb, ltb}
use lib.IntN.{ℤ, pos, negsuc, neg_ℤ, ◌+ℤ◌}
use lib.ListN.{length, get_or, take, drop, get_or-append}
use lib.Seq.{length-take-le, split_at, get_or-take, get_or-drop, get_or-append-add, take_at, drop_at}
use lib.Signed.{quot_z}
use Rattle.outline.specs.Segments.{previous}
use Rattle.contour.specs.Points.{Points}
use Rattle.contour.specs.Implied.{same, number, off_curve, midway, halfway, is_implied, implied_at, removed}
use Rattle.contour.specs.Standard.{FitsAndEven, TestsAgree, Midpoint, AtMidpoint, ImpliedAtMidpoint, MidpointImplied, midpoint_of, implied_between, put_back, OutlineKept}
use Rattle.contour.proofs.Sixteen.{cut_inside, is_same, same_so}
use Rattle.contour.proofs.Dropping.{removed_length}

-- ---- twice a number

same_test : (a b m n : ℕ) → (a ≡ b → m ≡ n) → (m ≡ n → a ≡ b) → eqb m n ≡ eqb a b
same_test a b m n to from = by (eqb a b) refl
  where
    by : (t : Bool) → eqb a b ≡ t → eqb m n ≡ t
    by true e = eq-eqb m n (to (eqb-true a b e))
    by false e = ne_eqb m n (λ (q : m ≡ n). eqb-false a b e (from q))

same_twice : (a b : ℤ) → same (a +ℤ a) (b +ℤ b) ≡ same a b
same_twice (pos a) (pos b) = same_test a b (a + a) (b + b) (λ (e : a ≡ b). omega (arith, e)) (λ (e : a + a ≡ b + b). omega (arith, e))
same_twice (pos a) (negsuc b) = refl
same_twice (negsuc a) (pos b) = refl
same_twice (negsuc a) (negsuc b) =
    same_test a b (suc (a + a)) (suc (b + b)) (λ (e : a ≡ b). omega (arith, e)) (λ (e : suc (a + a) ≡ suc (b + b)). omega (arith, e))

half_twice : (m : ℤ) → quot_z (m +ℤ m) (pos 2) ≡ m
half_twice (pos n) = ap pos (omega arith)
half_twice (negsuc n) =
    let half : suc (suc (n + n)) / 2 ≡ suc n = omega arith in
    ap (λ (k : ℕ). neg_ℤ (pos k)) half

-- ---- the two tests

agree : (prev this next : ℤ) → FitsAndEven (prev +ℤ next) → halfway prev this next ≡ midway prev this next
agree prev this next f =
    ap (same (this +ℤ this)) (sym f.even) ∙ same_twice this f.half
    ∙ ap (same this) (sym (half_twice f.half) ∙ ap (λ (z : ℤ). quot_z z (pos 2)) (f.even ∙ sym (cut_inside (prev +ℤ next) f.fits)))

pub tests_agree : TestsAgree
unfolding is_implied
tests_agree prev this next x y =
    let x-agrees = agree (number prev 0) (number this 0) (number next 0) x in
    let y-agrees = agree (number prev 1) (number this 1) (number next 1) y in
    λ k. not (off_curve this) && (off_curve prev && (off_curve next && (x-agrees k && y-agrees k)))

-- ---- the midpoint

all_five : (a b c d e : Bool) → (a && (b && (c && (d && e)))) ≡ true → (a ≡ true) × (b ≡ true) × (c ≡ true) × (d ≡ true) × (e ≡ true)
all_five true true true true true h = (refl, refl, refl, refl, refl)
all_five true true true true false h = absurd (false≢true h)
all_five true true true false e h = absurd (false≢true h)
all_five true true false d e h = absurd (false≢true h)
all_five true false c d e h = absurd (false≢true h)
all_five false b c d e h = absurd (false≢true h)

pub implied_at_midpoint : ImpliedAtMidpoint
unfolding is_implied
implied_at_midpoint prev this next e =
    let facts = all_five (not (off_curve this)) (off_curve prev) (off_curve next) (halfway (number prev 0) (number this 0) (number next 0))
    (halfway (number prev 1) (number this 1) (number next 1)) e in
    record {
      on = not-true (off_curve this) facts.0;
      prev_off = facts.1;
      next_off = facts.2;
      x = same_so _ _ facts.3;
      y = same_so _ _ facts.4;
    }

pub midpoint_implied : MidpointImplied
unfolding is_implied
midpoint_implied prev this next m =
    λ k. not (m.on k) && (m.prev_off k && (m.next_off k && (is_same _ _ m.x k && is_same _ _ m.y k)))

-- ---- the outline

midpoint_is : (a m b : ℤ) → Midpoint a m b → midpoint_of a b ≡ m
midpoint_is a m b h = ap (λ (z : ℤ). quot_z z (pos 2)) (sym h) ∙ half_twice m

between_is : (prev this next : List ℤ) (x y : ℤ) → this ≡ x ∷ y ∷ pos 1 ∷ [] → AtMidpoint prev this next → implied_between prev next ≡ this
between_is prev this next x y e m =
    let x_is = midpoint_is (number prev 0) (number this 0) (number next 0) m.x in
    let y_is = midpoint_is (number prev 1) (number this 1) (number next 1) m.y in
    (λ k. x_is k ∷ y_is k ∷ pos 1 ∷ []) ∙ ap (λ (p : List ℤ). number p 0 ∷ number p 1 ∷ pos 1 ∷ []) e ∙ sym e

-- the neighbours of the place, going round, are what they were
prev_same : (ps : Points) (i : ℕ) → i < length ps → 1 < length ps →
    get_or (removed ps i) (previous (length (removed ps i)) i) [] ≡ get_or ps (previous (length ps) i) []
prev_same ps zero h two =
    let last : 1 + (length (removed ps 0) - 1) ≡ length ps - 1 = omega (arith, removed_length (is_implied true) ps 0 h) in
    get_or-drop 1 ps (length (removed ps 0) - 1) [] ∙ ap (λ (j : ℕ). get_or ps j []) last
prev_same ps (suc j) h two =
    get_or-append (take (suc j) ps) (drop (suc j + 1) ps) [] j (omega (arith, length-take-le (suc j) ps (omega arith)))
    ∙ get_or-take (suc j) ps j [] (omega arith)

module _ (ps : Points) (i : ℕ) (h : i < length ps) (two : 1 < length ps) where
  count : length (removed ps i) ≡ length ps - 1
  count = removed_length (is_implied true) ps i h

  front : length (take i ps) ≡ i
  front = length-take-le i ps (omega arith)

  next_same : get_or (removed ps i) (i % length (removed ps i)) [] ≡ get_or ps ((i + 1) % length ps) []
  next_same = by (ltb (i + 1) (length ps)) refl
    where
      by : (b : Bool) → ltb (i + 1) (length ps) ≡ b → get_or (removed ps i) (i % length (removed ps i)) [] ≡ get_or ps ((i + 1) % length ps) []
      by true e =
          let less = ltb-true (i + 1) (length ps) e in
          let here : i % length (removed ps i) ≡ i = mod-eq_of_lt (omega (arith, count, less)) in
          let there : (i + 1) % length ps ≡ i + 1 = mod-eq_of_lt less in
          let seam : i ≡ length (take i ps) + 0 = omega (arith, front) in
          let after : i + 1 + 0 ≡ i + 1 = omega arith in
          ap (λ (j : ℕ). get_or (removed ps i) j []) (here ∙ seam)
          ∙ get_or-append-add (take i ps) (drop (i + 1) ps) 0 []
          ∙ get_or-drop (i + 1) ps 0 []
          ∙ ap (λ (j : ℕ). get_or ps j []) (after ∙ sym there)
      by false e =
          let more = ltb-false (i + 1) (length ps) e in
          let left : length (removed ps i) ≡ i = omega (arith, count, more) in
          let all : length ps ≡ i + 1 = omega (arith, more) in
          let here : i % length (removed ps i) ≡ 0 = ap (λ (m : ℕ). i % m) left ∙ mod_self i in
          let there : (i + 1) % length ps ≡ 0 = ap (λ (m : ℕ). (i + 1) % m) all ∙ mod_self (i + 1) in
          ap (λ (j : ℕ). get_or (removed ps i) j []) here
          ∙ get_or-append (take i ps) (drop (i + 1) ps) [] 0 (omega (arith, front, more))
          ∙ get_or-take i ps 0 [] (omega (arith, more))
          ∙ ap (λ (j : ℕ). get_or ps j []) (sym there)

  put_back_lem : implied_between (get_or ps (previous (length ps) i) []) (get_or ps ((i + 1) % length ps) []) ≡ get_or ps i [] → put_back (removed ps i) i ≡ ps
  put_back_lem is =
      let point = (λ k. implied_between (prev_same ps i h two k) (next_same k)) ∙ is in
      let before = take_at (take i ps) (drop (i + 1) ps) i front in
      let after = drop_at (take i ps) (drop (i + 1) ps) i front in
      let place : i + 1 ≡ suc i = omega arith in
      (λ k. before k ++ (point k ∷ after k)) ∙ ap (λ (j : ℕ). take i ps ++ (get_or ps i [] ∷ drop j ps)) place ∙ sym (split_at ps i [] h)

pub outline_kept : OutlineKept
unfolding implied_at
outline_kept ps i x y h e t = put_back_lem ps i h two (between_is _ _ _ x y e m)
  where
    m : AtMidpoint (get_or ps (previous (length ps) i) []) (get_or ps i []) (get_or ps ((i + 1) % length ps) [])
    m = implied_at_midpoint _ _ _ t

    -- a point alone would be its own neighbour, on the curve and off it
    alone : length ps ≡ 1 → ⊥
    alone one =
        let first : i ≡ 0 = omega (arith, one) in
        let itself : previous (length ps) i ≡ i = rw (one, first) refl in
        false≢true (sym m.on ∙ ap (λ (j : ℕ). off_curve (get_or ps j [])) (sym itself) ∙ m.prev_off)

    two : 1 < length ps
    two = by (ltb 1 (length ps)) refl
      where
        by : (b : Bool) → ltb 1 (length ps) ≡ b → 1 < length ps
        by true f = ltb-true 1 (length ps) f
        by false f = absurd (alone (omega (arith, h, ltb-false 1 (length ps) f)))
