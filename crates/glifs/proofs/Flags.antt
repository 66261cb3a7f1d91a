-- What is refused once stays refused. Assumes nothing.
use Prim.Native.Nat.{ℕ, zero, suc, ◌+◌, ◌-◌, ◌≤◌}
use native.Mathlib.Omega.{arith}
use mathlib.Core.Bool.{Bool, true, false}
use mathlib.Core.List.{List}
use mathlib.Core.Path.{◌≡◌, refl, sym, ap, subst, ◌∙◌}
use borrow.Author.Tests.{le-ltb, ne_eqb, eqb-false}
use lib.Dec.{eqb}
use lib.ListN.{get_or}
use Rattle.gliftext.specs.Pick.{pick}
use Rattle.gliftext.specs.Text.{declared, wrong_text, texted}
use Rattle.gliftext.specs.Utf8.{rune_class, rune_table, rune_on}
use Rattle.gliftext.specs.declared.text.Text.{Text}
use Rattle.gliftext.specs.declared.text.Declaration.TheVariants.{Wrong}
use Rattle.gliftext.specs.declared.text.Point.{Point}
use Rattle.glif.specs.Tree.{entered, left, nested, treed}
use Rattle.glif.specs.Outline.{begun, ended, with_point, point_met, contour_met, contour_left, summed}
use Rattle.glif.specs.Scan.{scanned}
use Rattle.glif.specs.declared.tree.Tree.{Tree}
use Rattle.glif.specs.declared.outline.Sum.{Sum}
use Rattle.gliftext.proofs.Picks.{or-false}
use Rattle.glif.proofs.Stems.{Abs, fed, step, abs_of, name_at, flat}
use Rattle.glifs.proofs.Track.{act, to, text_after, word_after, wrong_after, step_is, Fine, at, at_next}
use Rattle.gliftext.specs.Actions.{does}
use Rattle.gliftext.specs.declared.action.Action.{Action}
use Rattle.gliftext.specs.declared.action.Action.TheVariants.{Opens, Empty, Closes}

pub record Flags (a : Abs) : Type 0 where
  pub text : a.text.wrong ≡ false
  pub tree : a.tree.wrong ≡ false
  pub bare : a.sum.bare ≡ false
  pub rune : eqb a.rune 10 ≡ false

text_was : (t : Text) (state : ℕ) (action : Action) (b i : ℕ) → (texted t state action b i).wrong ≡ false → t.wrong ≡ false
unfolding texted
text_was t state action b i e = (or-false _ _ e).0

text_known : (t : Text) (state : ℕ) (action : Action) (b i : ℕ) → (texted t state action b i).wrong ≡ false → declared (texted t state action b i).said Wrong ≡ false
unfolding texted wrong_text
text_known t state action b i e = (or-false _ _ (or-false _ _ (or-false _ _ (or-false _ _ e).1).1).1).1

entered_was : (t : Tree) (word : ℕ) → (entered t word).wrong ≡ false → t.wrong ≡ false
unfolding entered
entered_was t word e = (or-false _ _ e).0

left_was : (t : Tree) → (left t).wrong ≡ false → t.wrong ≡ false
unfolding left
left_was t e = (or-false _ _ e).0

pub tree_was : (t : Tree) (a : Action) (word : ℕ) (w : Bool) → (treed t a word w).wrong ≡ false → t.wrong ≡ false
unfolding treed pick
tree_was t a word w e = by (does a Opens) (does a Empty) (does a Closes) (or-false (nested t a word).wrong _ e).0
  where
    by : (x y v : Bool) → (pick x (entered t word) (pick y (left (entered t word)) (pick v (left t) t))).wrong ≡ false → t.wrong ≡ false
    by true y v h = entered_was t word h
    by false true v h = entered_was t word (left_was (entered t word) h)
    by false false true h = left_was t h
    by false false false h = h

pub sum_was : (s : Sum) (t : Tree) (a : Action) (word : ℕ) (p : Point) → (summed s t a word p).bare ≡ false → s.bare ≡ false
unfolding summed begun ended with_point pick
sum_was s t a word p e = by (contour_met t a word) (point_met t a word) (contour_left t a word) e
  where
    by : (c m l : Bool) → (pick l (ended (pick m (with_point (pick c (begun s) s) p) (pick c (begun s) s))) (pick m (with_point (pick c (begun s) s) p) (pick c (begun s) s))).bare ≡ false → s.bare ≡ false
    by true true true h = (or-false s.bare _ h).0
    by true true false h = h
    by true false true h = (or-false s.bare _ h).0
    by true false false h = h
    by false true true h = (or-false s.bare _ h).0
    by false true false h = h
    by false false true h = (or-false s.bare _ h).0
    by false false false h = h

pub ten_stays : (c : ℕ) → rune_on 10 c ≡ 10
unfolding rune_on rune_table pick
ten_stays zero = refl
ten_stays (suc zero) = refl
ten_stays (suc (suc zero)) = refl
ten_stays (suc (suc (suc zero))) = refl
ten_stays (suc (suc (suc (suc zero)))) = refl
ten_stays (suc (suc (suc (suc (suc zero))))) = refl
ten_stays (suc (suc (suc (suc (suc (suc zero)))))) = refl
ten_stays (suc (suc (suc (suc (suc (suc (suc zero))))))) = refl
ten_stays (suc (suc (suc (suc (suc (suc (suc (suc zero)))))))) = refl
ten_stays (suc (suc (suc (suc (suc (suc (suc (suc (suc zero))))))))) = refl
ten_stays (suc (suc (suc (suc (suc (suc (suc (suc (suc (suc zero)))))))))) = refl
ten_stays (suc (suc (suc (suc (suc (suc (suc (suc (suc (suc (suc zero))))))))))) = refl
ten_stays (suc (suc (suc (suc (suc (suc (suc (suc (suc (suc (suc (suc zero)))))))))))) = refl
ten_stays (suc (suc (suc (suc (suc (suc (suc (suc (suc (suc (suc (suc (suc zero))))))))))))) = refl
ten_stays (suc (suc (suc (suc (suc (suc (suc (suc (suc (suc (suc (suc (suc (suc zero)))))))))))))) = refl
ten_stays (suc (suc (suc (suc (suc (suc (suc (suc (suc (suc (suc (suc (suc (suc (suc c))))))))))))))) = rw (le-ltb (suc (suc (suc (suc (suc (suc (suc (suc (suc (suc (suc (suc (suc (suc (suc c))))))))))))))) 15 (omega arith))

rune_was : (r c : ℕ) → eqb (rune_on r c) 10 ≡ false → eqb r 10 ≡ false
rune_was r c e = ne_eqb r 10 (λ h. eqb-false (rune_on r c) 10 e (ap (λ (v : ℕ). rune_on v c) h ∙ ten_stays c))

flags_was : (z : List ℕ) (b : ℕ) (st : List ℕ) (f : Abs) → Flags (step z (fed b st) f) → Flags f
flags_was z b st f g =
    let is = step_is z b st f in
    let g' = subst (λ (v : Abs). Flags v) is g in
    record {
      text = text_was f.text (to f b) (act f b) b 0 g'.text;
      tree = tree_was f.tree (act f b) (word_after f b) (wrong_after z f b st) g'.tree;
      bare = sum_was f.sum f.tree (act f b) (word_after f b) (text_after f b).point g'.bare;
      rune = rune_was f.rune (rune_class b) g'.rune;
    }

module _ (bs : List ℕ) where
  flags_back : (d i : ℕ) → Flags (at bs (i + d)) → Flags (at bs i)
  flags_back zero i g = let same : i + 0 ≡ i = omega arith in subst (λ (v : ℕ). Flags (at bs v)) same g
  flags_back (suc d) i g =
      let same : i + suc d ≡ suc i + d = omega arith in
      let later : Flags (at bs (suc i)) = flags_back d (suc i) (subst (λ (v : ℕ). Flags (at bs v)) same g) in
      flags_was (name_at bs 0) (get_or bs i 0) (name_at bs i) (at bs i) (subst (λ (v : Abs). Flags v) (at_next bs i) later)

  said_first : declared (at bs 0).text.said Wrong ≡ false
  unfolding at abs_of scanned flat
  said_first = refl

  known_at : (i : ℕ) → Flags (at bs i) → declared (at bs i).text.said Wrong ≡ false
  known_at zero g = said_first
  known_at (suc i) g =
      let is = at_next bs i ∙ step_is (name_at bs 0) (get_or bs i 0) (name_at bs i) (at bs i) in
      subst (λ (v : Abs). v.text.wrong ≡ false → declared v.text.said Wrong ≡ false) (sym is)
      (text_known (at bs i).text (to (at bs i) (get_or bs i 0)) (act (at bs i) (get_or bs i 0)) (get_or bs i 0) 0) g.text

  pub fine_at : (i n : ℕ) → i ≤ n → Flags (at bs n) → Fine (at bs i)
  fine_at i n h g =
      let same : i + (n - i) ≡ n = omega arith in
      let here : Flags (at bs i) = flags_back (n - i) i (subst (λ (v : ℕ). Flags (at bs v)) (sym same) g) in
      record { text = here.text; tree = here.tree; bare = here.bare; known = known_at i here; rune = here.rune }
