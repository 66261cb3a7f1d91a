-- One turn of each walk of the samples, as the code takes it. Assumes nothing.
use Prim.Native.Nat.{ℕ, zero, suc, ◌+◌, ◌-◌, ◌≤◌, ◌<◌}
use native.Mathlib.Numerals.{add-one}
use native.Mathlib.Omega.{arith}
use mathlib.Core.Bool.{true, false}
use mathlib.Core.List.{List, [], ◌∷◌}
use mathlib.Core.Path.{◌≡◌, refl, sym, ◌∙◌}
use lib.IntN.{ℤ}
use lib.ListN.{length, take, set, length-set}
use lib.Seq.{length-take-le, take-suc-set}
use lib.Ieee.{Float, binary64, add, le}
use Rattle.float.specs.Numbers.{nought, one}
use Rattle.geometry.specs.declared.Quad.{Quad}
use Rattle.arclen.specs.Arclen.{hundredth, arclen_functor_of, rk4_one}
use Rattle.arclen.specs.One.{StepsOne}
use Rattle.arclen.specs.declared.ArclenFunctor.{ArclenFunctor}
use Rattle.arclen.proofs.Laws.{stepped_one}
use Rattle.outline.specs.Segments.{end_of, seg_from}
use Rattle.samples.specs.Samples.{Sample, Walked, full, at, sample_at, fill_from, fill_to, filled, moved_to, step_at, sweep_from, length_from, length_after, sweep_all, length_all, last_of, nowhere, begun, start, walked_in, quad_of, quads_from, refused, finished, thetas_of}
use Rattle.samples.specs.declared.Step.{Step}
use Rattle.samples.specs.declared.Walk.{Walk}

-- ---- no sample is due
pub not_due : (room : ℕ) (rows : List Sample) (x : Float) (last this : Step) (limit : Float) → le x limit ≡ false → fill_to room this limit rows x last ≡ at rows x last
unfolding fill_to fill_from
not_due room rows x last this limit e = by (room - length rows)
  where
    by : (k : ℕ) → fill_from k (le x limit) this limit rows x last ≡ at rows x last
    by zero = rw e
    by (suc k) = rw e

-- ---- a turn of `fill`, where m places are used
module _ {room : ℕ} (row : List Sample) (m : ℕ) (x : Float) (last this : Step) (limit : Float) (long : length row ≡ room) (inside : m ≤ room) where
  left : room - length (take m row) ≡ room - m
  left = rw (length-take-le m row (omega arith))

  pub none_left : le x limit ≡ true → length row ≤ m → fill_to room this limit (take m row) x last ≡ full
  unfolding fill_to fill_from
  none_left e h =
      let none : room - m ≡ 0 = omega arith in
      rw (left, none, e)

  pub goes : le x limit ≡ true → m < length row →
      fill_to room this limit (take m row) x last
      ≡ fill_to room this limit (take (m + 1) (set row m (sample_at last this x))) (add binary64 x one) last
  unfolding fill_to fill_from
  goes e h =
      let one_less : room - m ≡ suc (room - (m + 1)) = omega arith in
      let next = set row m (sample_at last this x) in
      let same : length next ≡ length row = length-set row m (sample_at last this x) in
      let used : length (take (m + 1) next) ≡ m + 1 = length-take-le (m + 1) next (omega arith) in
      rw (used, left, one_less, e, add-one, take-suc-set row m (sample_at last this x) h)

-- ---- a full row stays full
pub sweep_full : (k room : ℕ) (q : Quad) (t y : Float) → sweep_from k room q t y full ≡ full
unfolding sweep_from filled moved_to
sweep_full zero room q t y = refl
sweep_full (suc k) room q t y = sweep_full k room q (add binary64 t hundredth) (rk4_one (arclen_functor_of q) hundredth t y)

pub all_full : (room : ℕ) (qs : List Quad) (y : Float) → sweep_all room qs y full ≡ full
unfolding sweep_all
all_full room [] y = refl
all_full room (q ∷ qs) y = rw (sweep_full 100 room q nought y) (all_full room qs (length_after q y))

-- one quad more
all_more : (room : ℕ) (q : Quad) (qs : List Quad) (y : Float) (w : Walked) → sweep_all room (q ∷ qs) y w ≡ sweep_all room qs (length_after q y) (sweep_from 100 room q nought y w)
unfolding sweep_all
all_more room q qs y w = refl

-- ---- 100 steps over a quad, of which k are done
pub record Sweeping (q : Quad) (f : ArclenFunctor) (row₀ : List Sample) (n₀ : ℕ) (ix₀ : Float) (last₀ : Step) (y₀ : Float)
    (row : List Sample) (n : ℕ) (ix : Float) (last : Step) (t y : Float) (k : ℕ) : Type 0 where
  pub functor : f ≡ arclen_functor_of q
  pub long : length row ≡ length row₀
  pub inside : n ≤ length row₀
  pub rows : sweep_from 100 (length row₀) q nought y₀ (at (take n₀ row₀) ix₀ last₀) ≡ sweep_from (100 - k) (length row₀) q t y (at (take n row) ix last)
  pub len : length_from 100 (arclen_functor_of q) nought y₀ ≡ length_from (100 - k) (arclen_functor_of q) t y

module _ {q : Quad} {f : ArclenFunctor} {row₀ : List Sample} {n₀ : ℕ} {ix₀ : Float} {last₀ : Step} {y₀ : Float}
    {row : List Sample} {n : ℕ} {ix : Float} {last : Step} {t y : Float} {k : ℕ}
    (s : Sweeping q f row₀ n₀ ix₀ last₀ y₀ row n ix last t y k) where
  -- one step more
  turn : k < 100 → sweep_from (100 - k) (length row₀) q t y (at (take n row) ix last)
      ≡ sweep_from (100 - (k + 1)) (length row₀) q (add binary64 t hundredth) (rk4_one (arclen_functor_of q) hundredth t y)
      (moved_to (step_at q t y) (fill_to (length row₀) (step_at q t y) y (take n row) ix last))
  unfolding sweep_from filled
  turn h =
      let one_less : 100 - k ≡ suc (100 - (k + 1)) = omega arith in
      rw one_less

  pub sweeps : {row' : List Sample} {m : ℕ} {x : Float} {this : Step} {z : Float} → k < 100 → this ≡ step_at q t y →
      fill_to (length row) this y (take n row) ix last ≡ at (take m row') x last → length row' ≡ length row → m ≤ length row →
      StepsOne f hundredth t y z → Sweeping q f row₀ n₀ ix₀ last₀ y₀ row' m x this (add binary64 t hundredth) z (k + 1)
  unfolding moved_to length_from
  sweeps {row'} {m} {x} {this} {z} h is fills same few step =
      let one_less : 100 - k ≡ suc (100 - (k + 1)) = omega arith in
      let longer = sym (stepped_one f hundredth t y step) in
      record {
        functor = s.functor;
        long = same ∙ s.long;
        inside = omega (arith, s.long);
        rows = s.rows ∙ turn h ∙ rw (← is, ← s.long, fills, longer, s.functor) refl;
        len = s.len ∙ rw (one_less, longer, s.functor) refl;
      }

  pub sweeps_over : {this : Step} → k < 100 → this ≡ step_at q t y → fill_to (length row) this y (take n row) ix last ≡ full →
      sweep_from 100 (length row₀) q nought y₀ (at (take n₀ row₀) ix₀ last₀) ≡ full
  unfolding moved_to
  sweeps_over h is fills = s.rows ∙ turn h ∙ rw (← is, ← s.long, fills) (sweep_full (100 - (k + 1)) _ q _ _)

  pub swept_all : 100 ≤ k → sweep_from 100 (length row₀) q nought y₀ (at (take n₀ row₀) ix₀ last₀) ≡ at (take n row) ix last
  unfolding sweep_from
  swept_all h =
      let none : 100 - k ≡ 0 = omega arith in
      s.rows ∙ rw none

  pub length_all_lem : 100 ≤ k → y ≡ length_after q y₀
  unfolding length_from
  length_all_lem h =
      let none : 100 - k ≡ 0 = omega arith in
      sym (s.len ∙ rw none)

-- ---- the quads of a run, of which k are swept: those that are left start at place a
module _ (xs ys : List ℤ) (fs : List ℕ) (all : List Quad) (count : ℕ) where
  abbrev pub rest : ℕ → ℕ → List Quad
  rest a k = quads_from xs ys fs a (count - k)

  -- the next one
  rest_more : (a k : ℕ) → k < count → rest a k ≡ quad_of (seg_from xs ys fs a) ∷ rest (end_of fs a) (k + 1)
  unfolding quads_from
  rest_more a k h =
      let one_less : count - k ≡ suc (count - (k + 1)) = omega arith in
      rw one_less

  rest_none : (a k : ℕ) → count ≤ k → rest a k ≡ []
  unfolding quads_from
  rest_none a k h =
      let none : count - k ≡ 0 = omega arith in
      rw none

  pub record Running (row₀ row : List Sample) (q : Quad) (w : Walk) (a k : ℕ) : Type 0 where
    pub long : length row ≡ length row₀
    pub inside : w.n ≤ length row₀
    pub rows : sweep_all (length row₀) all nought begun ≡ sweep_all (length row₀) (rest a k) w.len (walked_in row w)
    pub len : length_all all nought ≡ length_all (rest a k) w.len
    pub last : last_of nowhere all ≡ last_of q (rest a k)

  pub begins : (row : List Sample) {w : Walk} (a : ℕ) → w ≡ start → all ≡ quads_from xs ys fs a count → Running row row nowhere w a 0
  begins row a e is =
      let none : count - 0 ≡ count = omega arith in
      record { long = refl; inside = rw e (omega arith); rows = rw (e, is, none) refl; len = rw (e, is, none) refl; last = rw (is, none) refl }

  module _ {row₀ row : List Sample} {q : Quad} {w : Walk} {a k : ℕ} (r : Running row₀ row q w a k) where
    pub runs : {row' : List Sample} {p : Quad} {v : Walk} {b : ℕ} → k < count → p ≡ quad_of (seg_from xs ys fs a) → b ≡ end_of fs a →
        sweep_from 100 (length row) p nought w.len (walked_in row w) ≡ walked_in row' v →
        v.len ≡ length_after p w.len → length row' ≡ length row → v.n ≤ length row → Running row₀ row' p v b (k + 1)
    unfolding length_all last_of
    runs h is next sweeps longer same few = record {
      long = same ∙ r.long;
      inside = omega (arith, r.long);
      rows = r.rows ∙ rw (rest_more a k h, ← is, ← next, ← r.long, all_more, sweeps, longer) refl;
      len = r.len ∙ rw (rest_more a k h, ← is, ← next, longer) refl;
      last = r.last ∙ rw (rest_more a k h, ← is, ← next) refl;
    }

    pub runs_over : {p : Quad} → k < count → p ≡ quad_of (seg_from xs ys fs a) →
        sweep_from 100 (length row) p nought w.len (walked_in row w) ≡ full → thetas_of (length row₀) all ≡ refused
    unfolding thetas_of finished filled
    runs_over {p} h is sweeps =
        let over : sweep_all (length row₀) all nought begun ≡ full = r.rows ∙ rw (rest_more a k h, ← is, ← r.long, all_more, sweeps) (all_full (length row) (rest (end_of fs a) (k + 1)) (length_after p w.len)) in
        rw over

    pub run_all : count ≤ k → thetas_of (length row₀) all ≡ finished (length row) q w.len (walked_in row w)
    unfolding sweep_all length_all last_of thetas_of
    run_all h = rw (r.rows, r.len, r.last, rest_none a k h, r.long) refl
