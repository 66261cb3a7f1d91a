-- A law for callers: samples that had room are the same with more room. Assumes nothing.
use Prim.Native.Nat.{ℕ, zero, suc, ◌-◌, ◌≤◌}
use Rattle.std.proofs.Common.{arith}
use Rattle.std.specs.Prelude.{Bool, true, false, ◌≡◌, Float}
use mathlib.Core.List.{List, [], ◌∷◌, ◌++◌}
use Rattle.std.proofs.Math.ListN.{length}
use Rattle.std.specs.Float.Ieee.{binary64, add, le}
use Rattle.float.specs.Numbers.{nought, one, two}
use Rattle.geometry.specs.declared.Quad.{Quad}
use Rattle.arclen.specs.Arclen.{hundredth, arclen_functor_of, rk4_one}
use Rattle.samples.specs.declared.Step.{Step}
use Rattle.samples.specs.Samples.{Sample, sample_at, Walked, full, at, fill_from, fill_to, filled, moved_to, step_at, sweep_from, length_after}
use Rattle.samples.specs.Samples.{sweep_all, length_all, begun, last_of, nowhere, last_step, sampled, run_of, finished, thetas_of}

-- two walks, the second with more room: the first is full, or they are one
data Alike : Walked → Walked → Type 0 where
  was_full : {w : Walked} → Alike full w
  same : {w : Walked} → Alike w w

fill_alike : (k j : ℕ) (t : Bool) (this : Step) (limit : Float) (row : List Sample) (ix : Float) (last : Step) → k ≤ j →
    Alike (fill_from k t this limit row ix last) (fill_from j t this limit row ix last)
unfolding fill_from
fill_alike zero j true this limit row ix last h = was_full
fill_alike zero zero false this limit row ix last h = same
fill_alike zero (suc j) false this limit row ix last h = same
fill_alike (suc k) zero t this limit row ix last h = absurd (omega arith)
fill_alike (suc k) (suc j) true this limit row ix last h =
    fill_alike k j (le (add binary64 ix one) limit) this limit (row ++ (sample_at last this ix ∷ [])) (add binary64 ix one) last (omega arith)
fill_alike (suc k) (suc j) false this limit row ix last h = same

module _ (room more : ℕ) (h : room ≤ more) where
  filled_alike : (this : Step) (limit : Float) {w v : Walked} → Alike w v → Alike (filled room this limit w) (filled more this limit v)
  unfolding filled fill_to
  filled_alike this limit was_full = was_full
  filled_alike this limit (same {w = full}) = was_full
  filled_alike this limit (same {w = at row ix last}) = fill_alike (room - length row) (more - length row) (le ix limit) this limit row ix last (omega arith)

  moved_alike : (this : Step) {w v : Walked} → Alike w v → Alike (moved_to this w) (moved_to this v)
  unfolding moved_to
  moved_alike this was_full = was_full
  moved_alike this same = same

  sweep_alike : (k : ℕ) (q : Quad) (t y : Float) {w v : Walked} → Alike w v → Alike (sweep_from k room q t y w) (sweep_from k more q t y v)
  unfolding sweep_from
  sweep_alike zero q t y a = a
  sweep_alike (suc k) q t y a =
      let this = step_at q t y in
      sweep_alike k q (add binary64 t hundredth) (rk4_one (arclen_functor_of q) hundredth t y) (moved_alike this (filled_alike this y a))

  all_alike : (qs : List Quad) (y : Float) {w v : Walked} → Alike w v → Alike (sweep_all room qs y w) (sweep_all more qs y v)
  unfolding sweep_all
  all_alike [] y a = a
  all_alike (q ∷ qs) y a = all_alike qs (length_after q y) (sweep_alike 100 q nought y a)

  run_same : (y : Float) {w v : Walked} {row : List Sample} {len : Float} → Alike w v → run_of y w ≡ sampled row len → run_of y v ≡ sampled row len
  run_same y was_full e = let z : ◌≡◌ {A = ℕ} 0 1 = cc in absurd (omega arith)
  run_same y same e = e

  -- the samples of a run
  pub samples_same : (qs : List Quad) (row : List Sample) (len : Float) → thetas_of room qs ≡ sampled row len → thetas_of more qs ≡ sampled row len
  unfolding thetas_of finished
  samples_same qs row len e =
      let y = length_all qs nought in
      run_same y (filled_alike (last_step (last_of nowhere qs) y) (add binary64 y two) (all_alike qs nought {w = begun} same)) e
