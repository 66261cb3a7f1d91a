-- What one byte does to the open elements, and to what is summed up of the outline. Assumes nothing.
use Prim.Native.Nat.{ℕ, suc, ◌-◌, ◌≤◌, ◌<◌, min}
use native.Mathlib.Omega.{arith}
use mathlib.Core.Bool.{Bool, true, false, true≢false}
use mathlib.Core.Path.{◌≡◌, refl, sym, ap, subst, ◌∙◌}
use borrow.Author.Tests.{ne_eqb, ltb-true, ltb-false, eqb-true, eqb-false}
use lib.Dec.{eqb, ltb}
use Rattle.gliftext.specs.Pick.{pick, both, either, more}
use Rattle.gliftext.specs.declared.text.Point.{Point}
use Rattle.glif.specs.Tree.{on_path, entered, left, opens_tag, treed}
use Rattle.glif.specs.Outline.{begun, ended, with_point, point_met, contour_met, contour_left, summed}
use Rattle.glif.specs.declared.tree.Tree.{Tree}
use Rattle.glif.specs.declared.outline.Sum.{Sum}
use Rattle.gliftext.proofs.Doing.{does_true, does_false}
use Rattle.gliftext.proofs.Picks.{plain_more, both_true, both_left, both_right}
use Rattle.glif.proofs.Like.{closes_deep}
use Rattle.gliftext.specs.Actions.{does}
use Rattle.gliftext.specs.declared.action.Action.{Action}
use Rattle.gliftext.specs.declared.action.Action.TheVariants.{Opens, Empty, Closes}

-- where the open elements went: into one on the path, into another, past one, out of one, or nowhere
pub data Went (t t' : Tree) (a : Action) (on : Bool) : Type 0 where
  down_on : does a Opens ≡ true → on ≡ true → t.level ≡ t.depth → t'.level ≡ suc t.level → t'.depth ≡ suc t.depth → Went t t' a on
  down : does a Opens ≡ true → on ≡ false → t'.level ≡ t.level → t'.depth ≡ suc t.depth → Went t t' a on
  aside : does a Empty ≡ true → t'.level ≡ t.level → t'.depth ≡ t.depth → Went t t' a on
  up : does a Closes ≡ true → t'.level ≡ min t.level (t.depth - 1) → t'.depth ≡ t.depth - 1 → 0 < t.depth → Went t t' a on
  still : does a Opens ≡ false → does a Empty ≡ false → does a Closes ≡ false → t'.level ≡ t.level → t'.depth ≡ t.depth → Went t t' a on

less_of : (x y : ℕ) → pick (ltb x y) x y ≡ min x y
unfolding pick
less_of x y = by (ltb x y) refl
  where
    by : (t : Bool) → ltb x y ≡ t → pick t x y ≡ min x y
    by true e = omega (arith, ltb-true x y e)
    by false e = omega (arith, ltb-false x y e)

module _ (t : Tree) (a : Action) (word : ℕ) (w : Bool) (fits : t.level ≤ t.depth) (shallow : t.depth ≤ 256) (fine : (treed t a word w).wrong ≡ false) where
  abbrev on : Bool
  on = on_path t word

  on_level : on ≡ true → t.level ≡ t.depth
  unfolding on_path
  on_level e = eqb-true t.level t.depth (both_true _ _ e).0

  past_level : (left (entered t word)).level ≡ t.level
  unfolding entered left pick
  past_level = less_of (pick on (more t.level) t.level) (more t.depth - 1) ∙ rw (plain_more t.depth (omega arith)) (by on refl)
    where
      by : (o : Bool) → on ≡ o → min (pick o (more t.level) t.level) (suc t.depth - 1) ≡ t.level
      by true h = rw (plain_more t.level (omega arith)) (omega (arith, on_level h))
      by false h = omega arith

  past_depth : (left (entered t word)).depth ≡ t.depth
  unfolding entered left
  past_depth = rw (plain_more t.depth (omega arith)) (omega arith)

  pub went : Went t (treed t a word w) a on
  unfolding treed entered left pick
  went = by (does a Opens) (does a Empty) (does a Closes) refl refl refl
    where
      by : (x y v : Bool) → does a Opens ≡ x → does a Empty ≡ y → does a Closes ≡ v → Went t (treed t a word w) a on
      by true y v e f g = elim on as (λ (o : Bool). on ≡ o → Went t (treed t a word w) a on) [
        | true ↦ λ h. down_on e h (on_level h) (rw (e, h) (plain_more t.level (omega arith))) (rw e (plain_more t.depth (omega arith)))
        | false ↦ λ h. down e h (rw (e, h)) (rw e (plain_more t.depth (omega arith)))
      ] refl
      by false true v e f g = aside f (rw (e, f) past_level) (rw (e, f) past_depth)
      by false false true e f g = up g (rw (e, f, g) (less_of t.level (t.depth - 1))) (rw (e, f, g)) (closes_deep t word w a g fine)
      by false false false e f g = still e f g (rw (e, f, g)) (rw (e, f, g))

  -- an outline that is open, or was, stays met
  pub outline_kept : t.outline ≡ true → (treed t a word w).outline ≡ true
  unfolding treed entered left pick
  outline_kept o = by (does a Opens) (does a Empty) (does a Closes) refl refl refl
    where
      by : (x y v : Bool) → does a Opens ≡ x → does a Empty ≡ y → does a Closes ≡ v → (treed t a word w).outline ≡ true
      by true y v e f g = rw (e, o)
      by false true v e f g = rw (e, f, o)
      by false false true e f g = rw (e, f, g, o)
      by false false false e f g = rw (e, f, g, o)

  outline_made : does a Opens ≡ true → on ≡ true → t.depth ≡ 1 → (treed t a word w).outline ≡ true
  unfolding treed entered pick
  outline_made e o d = rw (e, o, d) (either_true t.outline)
    where
      either_true : (x : Bool) → either x true ≡ true
      either_true true = refl
      either_true false = refl

  pub root_kept : t.root ≡ true → (treed t a word w).root ≡ true
  unfolding treed entered left pick
  root_kept o = by (does a Opens) (does a Empty) (does a Closes) refl refl refl
    where
      by : (x y v : Bool) → does a Opens ≡ x → does a Empty ≡ y → does a Closes ≡ v → (treed t a word w).root ≡ true
      by true y v e f g = rw e
      by false true v e f g = rw (e, f)
      by false false true e f g = rw (e, f, g, o)
      by false false false e f g = rw (e, f, g, o)

  pub root_made : does a Opens ≡ true → (treed t a word w).root ≡ true
  unfolding treed entered pick
  root_made e = rw e

  pub outline_next : (1 < t.level → t.outline ≡ true) → 1 < (treed t a word w).level → (treed t a word w).outline ≡ true
  outline_next inv h = by went
    where
      by : Went t (treed t a word w) a on → (treed t a word w).outline ≡ true
      by (down_on e o l l' d) = elim (ltb 1 t.level) as (λ (x : Bool). ltb 1 t.level ≡ x → (treed t a word w).outline ≡ true) [
        | true ↦ λ k. outline_kept (inv (ltb-true 1 t.level k))
        | false ↦ λ k. outline_made e o (omega (arith, ltb-false 1 t.level k))
      ] refl
      by (down e o l d) = outline_kept (inv (omega arith))
      by (aside e l d) = outline_kept (inv (omega arith))
      by (up e l d p) = outline_kept (inv (omega arith))
      by (still e f g l d) = outline_kept (inv (omega arith))

-- ---- what is summed up

module _ (s : Sum) (t : Tree) (a : Action) (word : ℕ) (p : Point) where
  pub summed_by : {c m l : Bool} → contour_met t a word ≡ c → point_met t a word ≡ m → contour_left t a word ≡ l →
      summed s t a word p ≡ pick l (ended (pick m (with_point (pick c (begun s) s) p) (pick c (begun s) s))) (pick m (with_point (pick c (begun s) s) p) (pick c (begun s) s))
  unfolding summed
  summed_by e f g = rw (e, f, g)

module _ (t : Tree) (a : Action) (word : ℕ) where
  pub tags_none : does a Opens ≡ false → does a Empty ≡ false → opens_tag a ≡ false
  unfolding opens_tag pick
  tags_none e f = rw (e, f)

  pub met_none : opens_tag a ≡ false → (contour_met t a word ≡ false) × (point_met t a word ≡ false)
  unfolding contour_met point_met
  met_none e = (both_left _ _ e, both_left _ _ e)

  pub met_off : on_path t word ≡ false → (contour_met t a word ≡ false) × (point_met t a word ≡ false)
  unfolding contour_met point_met
  met_off e = (both_right _ _ (both_right _ _ e), both_right _ _ (both_right _ _ e))

  pub contour_off : (t.level ≡ 2 → ⊥) → contour_met t a word ≡ false
  unfolding contour_met
  contour_off h = both_right _ _ (both_left _ _ (ne_eqb t.level 2 h))

  pub point_off : (t.level ≡ 3 → ⊥) → point_met t a word ≡ false
  unfolding point_met
  point_off h = both_right _ _ (both_left _ _ (ne_eqb t.level 3 h))

  pub contour_on : opens_tag a ≡ true → t.level ≡ 2 → on_path t word ≡ true → contour_met t a word ≡ true
  unfolding contour_met pick
  contour_on e f g = rw (e, g, f)

  pub left_none : does a Closes ≡ false → contour_met t a word ≡ false → contour_left t a word ≡ false
  unfolding contour_left pick
  left_none e f = rw (e, f) (both_right (does a Empty) false refl)

  pub left_open : does a Closes ≡ false → does a Empty ≡ false → contour_left t a word ≡ false
  unfolding contour_left pick
  left_open e f = rw (e, f)

  pub left_other : contour_met t a word ≡ false → both (eqb t.level 3) (eqb t.depth 3) ≡ false → contour_left t a word ≡ false
  unfolding contour_left pick
  left_other e f = rw (e, f) (by (does a Closes) (does a Empty))
    where
      by : (x y : Bool) → either (both x false) (both y false) ≡ false
      by true true = refl
      by true false = refl
      by false true = refl
      by false false = refl

  pub left_empty : does a Empty ≡ true → contour_met t a word ≡ true → contour_left t a word ≡ true
  unfolding contour_left pick
  left_empty e f = rw (e, f) (by (both (does a Closes) (both (eqb t.level 3) (eqb t.depth 3))))
    where
      by : (x : Bool) → either x true ≡ true
      by true = refl
      by false = refl

  pub left_closed : does a Closes ≡ true → t.level ≡ 3 → t.depth ≡ 3 → contour_left t a word ≡ true
  unfolding contour_left pick
  left_closed e f g = rw (e, f, g)

-- ---- a contour opens, or closes, or neither

pub data Way (t t' : Tree) (a : Action) (on : Bool) : Type 0 where
  opening : does a Opens ≡ true → on ≡ true → t.level ≡ 2 → t.depth ≡ 2 → t'.level ≡ 3 → t'.depth ≡ 3 → Way t t' a on
  closing : does a Closes ≡ true → t.level ≡ 3 → t.depth ≡ 3 → t'.level ≡ 2 → t'.depth ≡ 2 → Way t t' a on
  outer : t.level ≤ 2 → t'.level ≤ 2 → t'.level ≤ t'.depth → Went t t' a on → Way t t' a on
  inner : 2 < t.level → 2 < t'.level → t'.level ≤ t'.depth → Went t t' a on → Way t t' a on

pub way_of : {t t' : Tree} {a : Action} {on : Bool} → t.level ≤ t.depth → Went t t' a on → Way t t' a on
way_of {t} {t'} {a} {on} fits (down_on e o l l' d) = by (eqb t.level 2) refl (ltb 2 t.level) refl
  where
    by : (x : Bool) → eqb t.level 2 ≡ x → (y : Bool) → ltb 2 t.level ≡ y → Way t t' a on
    by true f y g = let two = eqb-true t.level 2 f in opening e o two (omega arith) (omega arith) (omega arith)
    by false f true g = let more = ltb-true 2 t.level g in inner more (omega arith) (omega arith) (down_on e o l l' d)
    by false f false g =
        let less = ltb-false 2 t.level g in
        let other = eqb-false t.level 2 f in
        outer less (omega arith) (omega arith) (down_on e o l l' d)
way_of {t} {t'} {a} {on} fits (down e o l d) = by (ltb 2 t.level) refl
  where
    by : (y : Bool) → ltb 2 t.level ≡ y → Way t t' a on
    by true g = let more = ltb-true 2 t.level g in inner more (omega arith) (omega arith) (down e o l d)
    by false g = let less = ltb-false 2 t.level g in outer less (omega arith) (omega arith) (down e o l d)
way_of {t} {t'} {a} {on} fits (aside e l d) = by (ltb 2 t.level) refl
  where
    by : (y : Bool) → ltb 2 t.level ≡ y → Way t t' a on
    by true g = let more = ltb-true 2 t.level g in inner more (omega arith) (omega arith) (aside e l d)
    by false g = let less = ltb-false 2 t.level g in outer less (omega arith) (omega arith) (aside e l d)
way_of {t} {t'} {a} {on} fits (still e f h l d) = by (ltb 2 t.level) refl
  where
    by : (y : Bool) → ltb 2 t.level ≡ y → Way t t' a on
    by true g = let more = ltb-true 2 t.level g in inner more (omega arith) (omega arith) (still e f h l d)
    by false g = let less = ltb-false 2 t.level g in outer less (omega arith) (omega arith) (still e f h l d)
way_of {t} {t'} {a} {on} fits (up e l d p) = by (ltb 2 t.level) refl (eqb t.depth 3) refl
  where
    by : (y : Bool) → ltb 2 t.level ≡ y → (x : Bool) → eqb t.depth 3 ≡ x → Way t t' a on
    by true g true h =
        let more = ltb-true 2 t.level g in
        let three = eqb-true t.depth 3 h in
        closing e (omega arith) three (omega arith) (omega arith)
    by true g false h =
        let more = ltb-true 2 t.level g in
        let other = eqb-false t.depth 3 h in
        inner more (omega arith) (omega arith) (up e l d p)
    by false g x h = let less = ltb-false 2 t.level g in outer less (omega arith) (omega arith) (up e l d p)

-- nothing of the outline is met
pub record Quiet (t : Tree) (a : Action) (word : ℕ) : Type 0 where
  pub no_contour : contour_met t a word ≡ false
  pub no_point_lem : point_met t a word ≡ false
  pub no_end : contour_left t a word ≡ false

pub quiet_sum : {t : Tree} {a : Action} {word : ℕ} → Quiet t a word → (s : Sum) (p : Point) → summed s t a word p ≡ s
unfolding pick
quiet_sum {t} {a} {word} q s p = summed_by s t a word p q.no_contour q.no_point_lem q.no_end

left_same : (t : Tree) (a : Action) (word word' : ℕ) → contour_met t a word ≡ contour_met t a word' → contour_left t a word ≡ contour_left t a word'
unfolding contour_left
left_same t a word word' e = ap (λ (m : Bool). either (both (does a Closes) (both (eqb t.level 3) (eqb t.depth 3))) (both (does a Empty) m)) e

tag_is : (a : Action) → opens_tag a ≡ either (does a Opens) (does a Empty)
unfolding opens_tag
tag_is a = refl

pub met_same : (t : Tree) (a : Action) (word word' : ℕ) → (either (does a Opens) (does a Empty) ≡ true → word ≡ word') → Quiet t a word → Quiet t a word'
met_same t a word word' h q = by (opens_tag a) refl
  where
    by : (x : Bool) → opens_tag a ≡ x → Quiet t a word'
    by true e = subst (λ (v : ℕ). Quiet t a v) (h (sym (tag_is a) ∙ e)) q
    by false e =
        let none = met_none t a word' e in
        record { no_contour = none.0; no_point_lem = none.1; no_end = left_same t a word' word (none.0 ∙ sym q.no_contour) ∙ q.no_end }

bare_now : (s : Sum) → (ended (begun s)).bare ≡ true
unfolding ended begun pick
bare_now s = by s.bare
  where
    by : (x : Bool) → either x true ≡ true
    by true = refl
    by false = refl

-- outside of contours nothing is met, or a contour opens: an empty one would be refused
pub outer_quiet : (t t' : Tree) (a : Action) (word : ℕ) (s : Sum) (p : Point) → t.level ≤ 2 → t'.level ≤ 2 → Went t t' a (on_path t word) →
    (summed s t a word p).bare ≡ false → Quiet t a word
outer_quiet t t' a word s p low low' went fine = by (contour_met t a word) refl
  where
    three : t.level ≡ 3 → ⊥
    three e = omega arith

    point : point_met t a word ≡ false
    point = point_off t a word three

    ends : contour_met t a word ≡ false → Quiet t a word
    ends e = record { no_contour = e; no_point_lem = point; no_end = left_other t a word e (both_left (eqb t.level 3) (eqb t.depth 3) (ne_eqb t.level 3 three)) }

    empty : does a Empty ≡ true → contour_met t a word ≡ true → ⊥
    empty e m =
        let is : summed s t a word p ≡ ended (begun s) = unfold pick in summed_by s t a word p m point (left_empty t a word e m) in
        true≢false (sym (bare_now s) ∙ sym (ap (λ (v : Sum). v.bare) is) ∙ fine)

    not_a : does a Opens ≡ false → does a Empty ≡ false → contour_met t a word ≡ false
    not_a e f = (met_none t a word (tags_none t a word e f)).0

    ten : does a Closes ≡ true → contour_met t a word ≡ false
    ten e = let is = does_true a Closes e in not_a (does_false a Opens (λ g. cc)) (does_false a Empty (λ g. cc))

    none : Went t t' a (on_path t word) → contour_met t a word ≡ true → ⊥
    none (down_on e o l l' d) m = true≢false (sym m ∙ contour_off t a word (λ g. omega arith))
    none (down e o l d) m = true≢false (sym m ∙ (met_off t a word o).0)
    none (aside e l d) m = empty e m
    none (up e l d q) m = true≢false (sym m ∙ ten e)
    none (still e f g l d) m = true≢false (sym m ∙ not_a e f)

    by : (x : Bool) → contour_met t a word ≡ x → Quiet t a word
    by true e = absurd (none went e)
    by false e = ends e

-- inside of a contour points may be met, and nothing else
pub record Points (t : Tree) (a : Action) (word : ℕ) : Type 0 where
  pub no_contour : contour_met t a word ≡ false
  pub no_end : contour_left t a word ≡ false

pub points_count : {t : Tree} {a : Action} {word : ℕ} → Points t a word → (s : Sum) (p : Point) → (summed s t a word p).contours ≡ s.contours
unfolding pick with_point
points_count {t} {a} {word} q s p = ap (λ (v : Sum). v.contours) (summed_by s t a word p q.no_contour refl q.no_end) ∙ by (point_met t a word)
  where
    by : (m : Bool) → (pick false (ended (pick m (with_point (pick false (begun s) s) p) (pick false (begun s) s))) (pick m (with_point (pick false (begun s) s) p) (pick false (begun s) s))).contours ≡ s.contours
    by true = refl
    by false = refl

pub inner_points : (t t' : Tree) (a : Action) (word : ℕ) → 2 < t.level → 2 < t'.level → Went t t' a (on_path t word) → Points t a word
inner_points t t' a word high high' went =
    let met = contour_off t a word (λ g. omega arith) in
    record { no_contour = met; no_end = by met (both (eqb t.level 3) (eqb t.depth 3)) refl }
  where
    ten : Went t t' a (on_path t word) → t.level ≡ 3 → t.depth ≡ 3 → does a Closes ≡ false
    ten (down_on e o l l' d) f g = let is = does_true a Opens e in does_false a Closes (λ h. cc)
    ten (down e o l d) f g = let is = does_true a Opens e in does_false a Closes (λ h. cc)
    ten (aside e l d) f g = let is = does_true a Empty e in does_false a Closes (λ h. cc)
    ten (up e l d q) f g = absurd (omega arith)
    ten (still e h i l d) f g = i

    by : contour_met t a word ≡ false → (x : Bool) → both (eqb t.level 3) (eqb t.depth 3) ≡ x → contour_left t a word ≡ false
    by met true e =
        let is = both_true (eqb t.level 3) (eqb t.depth 3) e in
        left_none t a word (ten went (eqb-true t.level 3 is.0) (eqb-true t.depth 3 is.1)) met
    by met false e = left_other t a word met e
