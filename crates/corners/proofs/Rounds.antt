-- The invariants of the rounds of `segment_sp`, that each holds at first, and after one more segment. Assumes nothing.
use Prim.Native.Nat.{ℕ, ◌+◌, ◌≤◌, ◌<◌}
use mathlib.Core.Bool.{Bool, true, false}
use mathlib.Core.List.{List}
use mathlib.Core.Path.{◌≡◌, refl, ap, ◌∙◌}
use native.Mathlib.Numerals.{add-one}
use native.Mathlib.Nat.{le_antisymm}
use native.Mathlib.Omega.{arith}
use lib.IntN.{ℤ}
use lib.ListN.{length, length-set}
use Rattle.geometry.specs.declared.Point.{Point}
use Rattle.outline.specs.declared.Seg.{Seg}
use Rattle.outline.specs.Segments.{count_of, end_of, start_of, seg_from, seg_at, chord_of, leaving_of, arriving_of, origin, previous}
use Rattle.corners.specs.Corners.{turns, after_turn, tangent_corner, none, mark_if, marked, chord_at, state_at, turn_at, tangent_at, corners_of}
use Rattle.outline.specs.Laws.{place_none, place_more}

mark_length : (t : Bool) (marks : List Bool) (k : ℕ) → length (mark_if t marks k) ≡ length marks
mark_length true marks k = length-set marks k true
mark_length false marks k = refl

-- one test more
marked_more : (test : ℕ → Bool) (k : ℕ) (marks : List Bool) → marked test (k + 1) marks ≡ mark_if (test k) (marked test k marks) k
unfolding marked
marked_more test k marks = rw add-one

marked_none : (test : ℕ → Bool) (marks : List Bool) → marks ≡ marked test 0 marks
unfolding marked
marked_none test marks = refl

module _ (xs ys : List ℤ) (fs : List ℕ) (s : Point) where
  pub state_more : (k : ℕ) → state_at xs ys fs s (k + 1) ≡ after_turn (turn_at xs ys fs s k) (state_at xs ys fs s k) (chord_at xs ys fs k)
  unfolding state_at
  state_more k = rw add-one

  pub state_none : s ≡ state_at xs ys fs s 0
  unfolding state_at
  state_none = refl

-- ---- signs: after k segments of a round that started with s₀

pub record Signs (xs ys : List ℤ) (fs : List ℕ) (m : ℕ) (marks₀ : List Bool) (s₀ : Point) (marks : List Bool) (s : Point) (a k : ℕ) : Type 0 where
  pub within : k ≤ m
  pub same : length marks ≡ length marks₀
  pub marks_are : marks ≡ marked (turn_at xs ys fs s₀) k marks₀
  pub state_is : s ≡ state_at xs ys fs s₀ k
  pub place_is : a ≡ start_of fs k

pub signs_start : (xs ys : List ℤ) (fs : List ℕ) (m : ℕ) (marks₀ : List Bool) (s₀ : Point) → Signs xs ys fs m marks₀ s₀ marks₀ s₀ 0 0
signs_start xs ys fs m marks₀ s₀ = record { within = omega arith; same = refl; marks_are = marked_none _ marks₀; state_is = state_none xs ys fs s₀; place_is = place_none fs 0 }

pub signs_more : {xs ys : List ℤ} {fs : List ℕ} {m : ℕ} {marks₀ : List Bool} {s₀ : Point} {marks : List Bool} {s : Point} {a k : ℕ} →
    {g : Seg} {c : Point} {t : Bool} {marks' : List Bool} {s' : Point} {a' : ℕ} →
    Signs xs ys fs m marks₀ s₀ marks s a k → k < m → g ≡ seg_from xs ys fs a → c ≡ chord_of g → t ≡ turns s c → marks' ≡ mark_if t marks k → s' ≡ after_turn t s c →
    a' ≡ end_of fs a → Signs xs ys fs m marks₀ s₀ marks' s' a' (k + 1)
signs_more {xs} {ys} {fs} {m} {marks₀} {s₀} {marks} {s} {a} {k} {g} {c} {t} {marks'} {s'} {a'} r h eg ec et em es ea =
    let turned : t ≡ turn_at xs ys fs s₀ k = rw (et, ec, eg, r.state_is, r.place_is) in
    record {
      within = omega arith;
      same = rw em (mark_length t marks k ∙ r.same);
      marks_are = rw (marked_more, em, turned, r.marks_are);
      state_is = rw (state_more, es, turned, ec, eg, r.state_is, r.place_is);
      place_is = rw (place_more, ea, r.place_is);
    }

-- ---- tangents: after k segments

pub record Tangents (xs ys : List ℤ) (fs : List ℕ) (m : ℕ) (marks₀ marks : List Bool) (before : Point) (a k : ℕ) : Type 0 where
  pub within : k ≤ m
  pub same : length marks ≡ length marks₀
  pub marks_are : marks ≡ marked (tangent_at xs ys fs m) k marks₀
  pub before_is : before ≡ arriving_of (seg_at xs ys fs (previous m k))
  pub place_is : a ≡ start_of fs k

pub tangents_start : {xs ys : List ℤ} {fs : List ℕ} {m : ℕ} {before : Point} (marks₀ : List Bool) →
    before ≡ arriving_of (seg_at xs ys fs (previous m 0)) → Tangents xs ys fs m marks₀ marks₀ before 0 0
tangents_start {fs = fs} marks₀ e = record { within = omega arith; same = refl; marks_are = marked_none _ marks₀; before_is = e; place_is = place_none fs 0 }

pub tangents_more : {xs ys : List ℤ} {fs : List ℕ} {m : ℕ} {marks₀ marks : List Bool} {before : Point} {a k : ℕ} →
    {s : Seg} {t : Bool} {marks' : List Bool} {before' : Point} {a' : ℕ} →
    Tangents xs ys fs m marks₀ marks before a k → k < m → s ≡ seg_from xs ys fs a → t ≡ tangent_corner before (leaving_of s) → marks' ≡ mark_if t marks k →
    before' ≡ arriving_of s → a' ≡ end_of fs a → Tangents xs ys fs m marks₀ marks' before' a' (k + 1)
tangents_more {xs} {ys} {fs} {m} {marks₀} {marks} {before} {a} {k} {s} {t} {marks'} {before'} {a'} r h es et em eb ea =
    let tested : t ≡ tangent_at xs ys fs m k = rw (et, es, r.before_is, r.place_is) in
    record {
      within = omega arith;
      same = rw em (mark_length t marks k ∙ r.same);
      marks_are = rw (marked_more, em, tested, r.marks_are);
      before_is = rw (add-one, eb, es, r.place_is);
      place_is = rw (place_more, ea, r.place_is);
    }

pub tangents_all : {xs ys : List ℤ} {fs : List ℕ} {m : ℕ} {marks₀ marks : List Bool} {before : Point} {a k : ℕ} →
    Tangents xs ys fs m marks₀ marks before a k → m ≤ k → marks ≡ marked (tangent_at xs ys fs m) m marks₀
tangents_all {xs} {ys} {fs} {m} {marks₀} r h =
    r.marks_are ∙ ap (λ (n : ℕ). marked (tangent_at xs ys fs m) n marks₀) (le_antisymm r.within h)

-- ---- the three rounds, one after the other

pub corners_are : (xs ys : List ℤ) (fs : List ℕ) (n : ℕ) {m : ℕ} {cleared once twice all : List Bool} {s : Point} →
    m ≡ count_of fs → cleared ≡ none n → (once ≡ marked (turn_at xs ys fs origin) m cleared) × (s ≡ state_at xs ys fs origin m) →
    twice ≡ marked (turn_at xs ys fs s) m once → all ≡ marked (tangent_at xs ys fs m) m twice → all ≡ corners_of xs ys fs n
unfolding corners_of
corners_are xs ys fs n em clearing first second third = rw (third, second, first.0, first.1, clearing, em)
