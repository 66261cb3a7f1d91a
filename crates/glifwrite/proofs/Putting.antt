-- Bytes, points and contours put into a row, step by step. Assumes nothing.
use Prim.Native.Nat.{ℕ, ◌+◌, ◌-◌, ◌≤◌}
use mathlib.Core.Bool.{Bool, false}
use mathlib.Core.List.{List}
use mathlib.Core.Path.{◌≡◌, refl, ◌∙◌}
use native.Mathlib.Numerals.{add-one}
use native.Mathlib.Omega.{arith}
use lib.Dec.{eqb, leb}
use lib.IntN.{ℤ, pos}
use lib.ListN.{length, get_or, set}
use Rattle.lines.specs.Text.{Put, signed_of}
use Rattle.gliftext.specs.Pick.{pick, either, more, sum}
use Rattle.glifwrite.specs.Puts.{Putting, put, put_byte, put_range, no_digits, put_number, opening, between, closing, put_kind, put_point}
use Rattle.glifwrite.specs.Contours.{is_on, end_at, start_of, put_place, put_to, empty_to, some_empty}

-- ---- a range

module _ (bs : List ℕ) (from : ℕ) (q₀ : Putting) where
  pub range_start : q₀ ≡ put_range bs from 0 q₀
  unfolding put_range
  range_start = refl

  pub range_more : (k : ℕ) {a a' place b : ℕ} {out out' : List ℕ} → put a out ≡ put_range bs from k q₀ → place ≡ sum from k → b ≡ get_or bs place 0 →
      out' ≡ set out a b → a' ≡ more a → put a' out' ≡ put_range bs from (k + 1) q₀
  unfolding put_range put_byte
  range_more k e f g h i = rw (i, h, g, f, add-one k, ← e)

  pub range_all : {n k m : ℕ} {q : Putting} → n ≡ m → k ≤ n → n ≤ k → q ≡ put_range bs from k q₀ → q ≡ put_range bs from m q₀
  range_all {n} {k} {m} s h i e =
      let same : k ≡ m = omega arith in
      e ∙ rw same

-- ---- a point

pub number_is : (v : ℤ) (q : Putting) {u : ℤ} {ds : List ℕ} {n : ℕ} {r : Putting} → u ≡ v → Put no_digits 0 (signed_of u) ds n → r ≡ put_range ds 0 (n - 0) q →
    r ≡ put_number v q
unfolding put_number
number_is v q s p e = e ∙ rw (p.held, p.next, s)

pub point_is : (x y : ℤ) (on before : Bool) (q : Putting) {u v : ℤ} {a b d e f r : Putting} → u ≡ x → v ≡ y → a ≡ put_range opening 0 (10 - 0) q → b ≡
    put_number u a →
    d ≡ put_range between 0 (5 - 0) b → e ≡ put_number v d → f ≡ put_range closing 0 (1 - 0) e → r ≡ put_kind on before f → r ≡ put_point x y on before q
unfolding put_point
point_is x y on before q s t g h i j k l = l ∙ rw (k, j, i, h, g, s, t)

-- ---- a contour

pub place_is : (xs ys : List ℤ) (fs : List ℕ) (from to i : ℕ) (q : Putting) {u v : ℤ} {on before : Bool} {end back last : ℕ} {r : Putting} → end ≡ to - 1 →
    back ≡ i - 1 → last ≡ pick (eqb i from) end back → before ≡ is_on fs last → u ≡ get_or xs i (pos 0) → v ≡ get_or ys i (pos 0) → on ≡ is_on fs i →
    r ≡ put_point u v on before q → r ≡ put_place xs ys fs from to i q
unfolding put_place
place_is xs ys fs from to i q a b d e f g h j = j ∙ rw (f, g, h, e, d, b, a)

module _ (xs ys : List ℤ) (fs : List ℕ) (from to : ℕ) (q₀ : Putting) where
  pub contour_start : q₀ ≡ put_to xs ys fs from to 0 q₀
  unfolding put_to
  contour_start = refl

  pub contour_more : (k : ℕ) {place : ℕ} {q r : Putting} → q ≡ put_to xs ys fs from to k q₀ → place ≡ sum from k → r ≡ put_place xs ys fs from to place q →
      r ≡ put_to xs ys fs from to (k + 1) q₀
  unfolding put_to
  contour_more k e f g = g ∙ rw (e, f, add-one k)

  pub contour_all : {n k m : ℕ} {q : Putting} → n ≡ m → k ≤ n → n ≤ k → q ≡ put_to xs ys fs from to k q₀ → q ≡ put_to xs ys fs from to m q₀
  contour_all {n} {k} {m} s h i e =
      let same : k ≡ m = omega arith in
      e ∙ rw same

-- ---- contours without a point

pub empty_none : (ends : List ℕ) → false ≡ empty_to ends 0
unfolding empty_to
empty_none ends = refl

pub empty_more : (ends : List ℕ) (k : ℕ) {found r : Bool} {e s : ℕ} → found ≡ empty_to ends k → e ≡ end_at ends k → s ≡ start_of ends k → r ≡ either
    found (leb e s) →
    r ≡ empty_to ends (k + 1)
unfolding empty_to
empty_more ends k a b d e = e ∙ rw (a, b, d, add-one k)

pub empty_all : (ends : List ℕ) {k : ℕ} {found : Bool} → k ≤ length ends → length ends ≤ k → found ≡ empty_to ends k → found ≡ some_empty ends
unfolding some_empty
empty_all ends {k} h i e =
    let same : k ≡ length ends = omega arith in
    e ∙ rw same
