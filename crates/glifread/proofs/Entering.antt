-- Points, contours and files into rows, step by step. Assumes nothing.
use Prim.Native.Nat.{ℕ, suc, ◌+◌, ◌-◌, ◌≤◌, ◌<◌}
use mathlib.Core.Bool.{Bool, true, false, not}
use mathlib.Core.List.{List}
use mathlib.Core.Path.{◌≡◌, refl, sym, ◌∙◌}
use native.Mathlib.Numerals.{add-one}
use native.Mathlib.Omega.{arith}
use borrow.Author.Tests.{lt-ltb, le-ltb}
use lib.IntN.{ℤ, pos}
use lib.ListN.{length, get_or, set}
use lib.Seq.{drop-cons}
use Rattle.lines.specs.Line.{negative}
use Rattle.gliftext.specs.Pick.{pick, both, more, sum}
use Rattle.glif.specs.Outline.{nowhere}
use Rattle.glifread.specs.Enter.{no_place, is_off, is_first, middle_of, signed_of, flag_of, end_of, Rows, rows, put_at, Drawn, drawn}
use Rattle.glifread.specs.Enter.{walked, enter_one, enter_to, sought, seek_from, enter_contour, Entering, entering, enter_next, enter_up_to, filled, enter_all}
use Rattle.glifread.specs.declared.enter.Pen.{Pen}
use Rattle.glifread.specs.declared.enter.Walk.{Walk}

picked : {A : Type 0} (t : Bool) (x y : A) → t ≡ true → pick t x y ≡ x
unfolding pick
picked t x y e = rw e

passed : {A : Type 0} (t : Bool) (x y : A) → t ≡ false → pick t x y ≡ y
unfolding pick
passed t x y e = rw e

-- what stands past the end does not matter inside
pub past_any : (l : List (List ℕ)) (i : ℕ) (d e : List ℕ) → i < length l → get_or l i d ≡ get_or l i e
past_any l i d e h = cc (drop-cons l i d h, drop-cons l i e h)

-- ---- a coordinate

module _ (v b a : ℕ) (below : b ≡ 32768 - v) (above : a ≡ v - 32768) where
  pub signed_below : 0 < b → negative b ≡ signed_of v
  unfolding signed_of
  signed_below h =
      let low : 0 < 32768 - v = omega arith in
      rw below (sym (picked _ _ _ (lt-ltb 0 (32768 - v) low)))

  pub signed_above : b ≤ 0 → a < 32768 → pos a ≡ signed_of v
  unfolding signed_of
  signed_above h k =
      let low : 32768 - v ≤ 0 = omega arith in
      let high : v - 32768 < 32768 = omega arith in
      rw above (sym (passed _ _ _ (le-ltb 0 (32768 - v) low) ∙ picked _ _ _ (lt-ltb (v - 32768) 32768 high)))

  pub signed_out : b ≤ 0 → 32768 ≤ a → pos 0 ≡ signed_of v
  unfolding signed_of
  signed_out h k =
      let low : 32768 - v ≤ 0 = omega arith in
      let high : 32768 ≤ v - 32768 = omega arith in
      sym (passed _ _ _ (le-ltb 0 (32768 - v) low) ∙ passed _ _ _ (le-ltb (v - 32768) 32768 high))

-- ---- one point

pub put_is : (i x y : ℕ) (off : Bool) (xs ys : List ℤ) (fs : List ℕ) {u v : ℤ} {w : ℕ} {xs' ys' : List ℤ} {fs' : List ℕ} → u ≡ signed_of x → v ≡ signed_of y →
    w ≡ flag_of off → xs' ≡ set xs i u → ys' ≡ set ys i v → fs' ≡ set fs i w → rows xs' ys' fs' ≡ put_at i x y off (rows xs ys fs)
unfolding put_at
put_is i x y off xs ys fs a b d e f g = rw (e, f, g, a, b, d)

pub one_is : (p : List ℕ) (pen : Pen) (r₀ : Rows) {off between : Bool} {place mx my next at last : ℕ} {r₁ r₂ : Rows} → off ≡ is_off (get_or p 2 0) →
    between ≡ both pen.off off → place ≡ pick between pen.at nowhere → mx ≡ middle_of pen.x (get_or p 0 0) → my ≡ middle_of pen.y (get_or p 1 0) →
    r₁ ≡ put_at place mx my false r₀ → next ≡ more pen.at → at ≡ pick between next pen.at → r₂ ≡ put_at at (get_or p 0 0) (get_or p 1 0) off r₁ → last
    ≡ more at →
    drawn (record { at = last; off = off; x = get_or p 0 0; y = get_or p 1 0 }) r₂ ≡ enter_one p (drawn pen r₀)
unfolding enter_one
one_is p pen r₀ a b d e f g h i j k = rw (k, j, i, h, g, f, e, d, b, a)

-- ---- places

module _ (ps : List (List ℕ)) (from : ℕ) (d : Drawn) where
  pub places_start : d ≡ enter_to ps from 0 d
  unfolding enter_to
  places_start = refl

  pub places_more : (k : ℕ) {q r : Drawn} {place : ℕ} {p : List ℕ} → q ≡ enter_to ps from k d → place ≡ sum from k → p ≡ get_or ps place no_place →
      r ≡ enter_one p q → r ≡ enter_to ps from (k + 1) d
  unfolding enter_to
  places_more k e f g h = h ∙ rw (e, g, f, add-one k)

  pub places_all : {n k m : ℕ} {q : Drawn} → n ≡ m → k ≤ n → n ≤ k → q ≡ enter_to ps from k d → q ≡ enter_to ps from m d
  places_all {n} {k} {m} s h i e =
      let same : k ≡ m = omega arith in
      e ∙ rw same

-- ---- a place that is looked for

module _ (first : Bool) (ps : List (List ℕ)) where
  pub tested : (i : ℕ) {p : List ℕ} {a b t : Bool} → p ≡ get_or ps i no_place → a ≡ is_first (get_or p 2 0) → b ≡ is_off (get_or p 2 0) → t ≡ pick first a (not b) →
      t ≡ sought first (get_or ps i no_place)
  tested i e f g h = h ∙ rw (f, g, e)

module _ (first : Bool) (ps : List (List ℕ)) (to : ℕ) where
  one_more : (i : ℕ) → i < to → seek_from first ps (to - i) i ≡ pick (sought first (get_or ps i no_place)) i (seek_from first ps (to - (i + 1)) (i + 1))
  unfolding seek_from
  one_more i h =
      let left : to - i ≡ suc (to - (i + 1)) = omega arith in
      rw left

  pub seek_hit : (i : ℕ) {t : Bool} → i < to → t ≡ sought first (get_or ps i no_place) → t ≡ true → seek_from first ps (to - i) i ≡ i
  seek_hit i h e f = one_more i h ∙ picked _ _ _ (sym e ∙ f)

  pub seek_on : (i : ℕ) {t : Bool} → i < to → t ≡ sought first (get_or ps i no_place) → t ≡ false →
      seek_from first ps (to - i) i ≡ seek_from first ps (to - (i + 1)) (i + 1)
  seek_on i h e f = one_more i h ∙ passed _ _ _ (sym e ∙ f)

  pub seek_end : (i : ℕ) → to ≤ i → seek_from first ps (to - i) i ≡ i
  unfolding seek_from
  seek_end i h =
      let none : to - i ≡ 0 = omega arith in
      rw none

-- ---- contours

pub contour_is : (ps : List (List ℕ)) (from to at : ℕ) (r₀ : Rows) {on : ℕ} {m e : Pen} {r₁ r₂ : Rows} → on ≡ seek_from false ps (to - from) from →
    drawn m r₁ ≡ enter_to ps on (to - on) (drawn (record { at = at; off = false; x = 0; y = 0 }) r₀) →
    drawn e r₂ ≡ enter_to ps from (on - from) (drawn m r₁) → walked e.at r₂ ≡ enter_contour ps from to (walked at r₀)
unfolding enter_contour
contour_is ps from to at r₀ f g h = rw (← f, ← g, ← h)

pub next_is : (ps : List (List ℕ)) (n k : ℕ) (w : Walk) (ends : List ℕ) (r₀ : Rows) {start to at end : ℕ} {ends' : List ℕ} {r₁ : Rows} → start ≡ more
    w.from →
    to ≡ seek_from true ps (n - start) start → walked at r₁ ≡ enter_contour ps w.from to (walked w.at r₀) → end ≡ end_of at → ends' ≡ set ends k end →
    entering (record { from = to; at = at }) ends' r₁ ≡ enter_next ps n k (entering w ends r₀)
unfolding enter_next
next_is ps n k w ends r₀ e f g h i = rw (i, h, ← e, ← f, ← g)

module _ (ps : List (List ℕ)) (n : ℕ) (e : Entering) where
  pub contours_start : e ≡ enter_up_to ps n 0 e
  unfolding enter_up_to
  contours_start = refl

  pub contours_more : (k : ℕ) {q r : Entering} → q ≡ enter_up_to ps n k e → r ≡ enter_next ps n k q → r ≡ enter_up_to ps n (k + 1) e
  unfolding enter_up_to
  contours_more k f g = g ∙ rw (f, add-one k)

pub contours_all : (ps : List (List ℕ)) (n contours : ℕ) (ends : List ℕ) (r₀ : Rows) {k : ℕ} {w : Walk} {ends' : List ℕ} {r : Rows} → k ≤ contours →
    contours ≤ k →
    entering w ends' r ≡ enter_up_to ps n k (entering (record { from = 0; at = 0 }) ends r₀) → filled ends' r ≡ enter_all ps n contours (filled ends r₀)
unfolding enter_all
contours_all ps n contours ends r₀ {k} h i e =
    let same : k ≡ contours = omega arith in
    rw (← same, ← e)
