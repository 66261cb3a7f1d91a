-- The walk over the segments to the one that is asked for: its invariant, that it holds at first, and after one more segment. Assumes nothing.
use Prim.Native.Nat.{ℕ, ◌+◌, ◌≤◌, ◌<◌}
use mathlib.Core.Bool.{Bool}
use mathlib.Core.List.{List}
use mathlib.Core.Path.{◌≡◌, ap, ◌∙◌}
use native.Mathlib.Nat.{le_antisymm}
use native.Mathlib.Omega.{arith}
use lib.IntN.{ℤ}
use Rattle.geometry.specs.declared.Point.{Point}
use Rattle.outline.specs.declared.Seg.{Seg}
use Rattle.outline.specs.Segments.{end_of, start_of, seg_from, chord_of}
use Rattle.corners.specs.Corners.{turns, after_turn, state_at, turn_at}
use Rattle.outline.specs.Laws.{place_none, place_more}
use Rattle.corners.proofs.Rounds.{state_more, state_none}

-- after i of the k segments, in a round that started with s₀
pub record Walked (xs ys : List ℤ) (fs : List ℕ) (k : ℕ) (s₀ s : Point) (a i : ℕ) : Type 0 where
  pub within : i ≤ k
  pub state_is : s ≡ state_at xs ys fs s₀ i
  pub place_is : a ≡ start_of fs i

pub walk_start : (xs ys : List ℤ) (fs : List ℕ) (k : ℕ) (s₀ : Point) → Walked xs ys fs k s₀ s₀ 0 0
walk_start xs ys fs k s₀ = record { within = omega arith; state_is = state_none xs ys fs s₀; place_is = place_none fs 0 }

pub walk_more : {xs ys : List ℤ} {fs : List ℕ} {k : ℕ} {s₀ s : Point} {a i : ℕ} {g : Seg} {c : Point} {t : Bool} {s' : Point} {a' : ℕ} →
    Walked xs ys fs k s₀ s a i → i < k → g ≡ seg_from xs ys fs a → c ≡ chord_of g → t ≡ turns s c → s' ≡ after_turn t s c → a' ≡ end_of fs a →
    Walked xs ys fs k s₀ s' a' (i + 1)
walk_more {xs} {ys} {fs} {k} {s₀} {s} {a} {i} {g} {c} {t} {s'} {a'} r h eg ec et es ea =
    let turned : t ≡ turn_at xs ys fs s₀ i = rw (et, ec, eg, r.state_is, r.place_is) in
    record {
      within = omega arith;
      state_is = rw (state_more, es, turned, ec, eg, r.state_is, r.place_is);
      place_is = rw (place_more, ea, r.place_is);
    }

pub walk_all : {xs ys : List ℤ} {fs : List ℕ} {k : ℕ} {s₀ s : Point} {a i : ℕ} → Walked xs ys fs k s₀ s a i → k ≤ i → s ≡ state_at xs ys fs s₀ k
walk_all {xs} {ys} {fs} {k} {s₀} r h = r.state_is ∙ ap (state_at xs ys fs s₀) (le_antisymm r.within h)
