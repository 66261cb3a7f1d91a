-- Two names compared, and a name looked for among others, place by place. Assumes nothing.
use Prim.Native.Nat.{ℕ, ◌+◌, ◌<◌, ◌≤◌}
use mathlib.Core.Bool.{Bool, true, false, not}
use mathlib.Core.List.{List, [], ◌∷◌}
use mathlib.Core.Path.{◌≡◌, refl, sym, ap, ◌∙◌}
use native.Mathlib.Numerals.{add-one}
use native.Mathlib.Omega.{arith}
use lib.Dec.{eqb}
use lib.ListN.{length, get_or, drop, drop_of_length-le}
use lib.Seq.{drop-cons}
use Rattle.gliftext.specs.Pick.{pick, both, either, sum}
use Rattle.gliftext.specs.Table.{is_name}
use Rattle.glif.specs.Names.{alike, same_name, seen_to}

picked : {A : Type 0} (t : Bool) (x y : A) → t ≡ true → pick t x y ≡ x
unfolding pick
picked t x y e = rw e

passed : {A : Type 0} (t : Bool) (x y : A) → t ≡ false → pick t x y ≡ y
unfolding pick
passed t x y e = rw e

-- ---- two names

pub names_start : (bs : List ℕ) (p q : ℕ) → same_name bs p q ≡ alike (drop p bs) (drop q bs)
unfolding same_name
names_start bs p q = refl

none_after : (xs : List ℕ) → alike xs [] ≡ false
unfolding alike
none_after [] = refl
none_after (x ∷ xs) = refl

none_before : (ys : List ℕ) → alike [] ys ≡ false
unfolding alike
none_before ys = refl

module _ (bs : List ℕ) (i j : ℕ) where
  pub names_first_out : length bs ≤ i → alike (drop i bs) (drop j bs) ≡ false
  names_first_out h = rw (drop_of_length-le bs {i = i} h) (none_before (drop j bs))

  pub names_second_out : length bs ≤ j → alike (drop i bs) (drop j bs) ≡ false
  names_second_out h = rw (drop_of_length-le bs {i = j} h) (none_after (drop i bs))

  abbrev a : ℕ
  a = get_or bs i 0

  abbrev b : ℕ
  b = get_or bs j 0

  here : i < length bs → j < length bs →
      alike (drop i bs) (drop j bs) ≡ pick (both (is_name a) (eqb a b)) (alike (drop (i + 1) bs) (drop (j + 1) bs)) (both (not (is_name a)) (not (is_name b)))
  unfolding alike
  here h k = rw (add-one i, add-one j, drop-cons bs i 0 h, drop-cons bs j 0 k)

  module _ (h : i < length bs) (k : j < length bs) {g t : Bool} (is : g ≡ is_name a) (tests : t ≡ both g (eqb a b)) where
    pub names_go : t ≡ true → alike (drop i bs) (drop j bs) ≡ alike (drop (i + 1) bs) (drop (j + 1) bs)
    names_go e = here h k ∙ picked _ _ _ (ap (λ (u : Bool). both u (eqb a b)) (sym is) ∙ sym tests ∙ e)

    pub names_stop : t ≡ false → {m r : Bool} → m ≡ is_name b → r ≡ both (not g) (not m) → r ≡ alike (drop i bs) (drop j bs)
    names_stop e {m} {r} f s =
        s ∙ rw (is, f) refl ∙ sym (here h k ∙ passed _ _ _ (ap (λ (u : Bool). both u (eqb a b)) (sym is) ∙ sym tests ∙ e))

-- ---- a name among others

pub seen_none : (bs ns : List ℕ) (from p : ℕ) → false ≡ seen_to bs ns from 0 p
unfolding seen_to
seen_none bs ns from p = refl

pub seen_more : (bs ns : List ℕ) (from p k : ℕ) {found s r : Bool} {place v : ℕ} → found ≡ seen_to bs ns from k p → place ≡ sum from k →
    v ≡ get_or ns place 0 → s ≡ same_name bs v p → r ≡ either found s → r ≡ seen_to bs ns from (k + 1) p
unfolding seen_to
seen_more bs ns from p k e f g h i = i ∙ rw (e, h, g, f, add-one k)

pub seen_all : (bs ns : List ℕ) (from n p : ℕ) {k : ℕ} {found : Bool} → k ≤ n → n ≤ k → found ≡ seen_to bs ns from k p → found ≡ seen_to bs ns from n p
seen_all bs ns from n p {k} h i e =
    let same : k ≡ n = omega arith in
    e ∙ rw same
