-- What the code's tests say of a length and of a row. Assumes nothing.
use Prim.Native.Nat.{ℕ, zero, suc, ◌-◌, ◌≤◌}
use native.Mathlib.Omega.{arith}
use mathlib.Core.Bool.{Bool, true, false, not}
use mathlib.Core.List.{List, [], ◌∷◌}
use mathlib.Core.Path.{◌≡◌, refl, sym, subst, ◌∙◌}
use lib.Dec.{T}
use lib.Ieee.{Float, binary64, ne, is_nan, to_unsigned, of_bits}
use lib.Ieee.Compare.{differs_from_itself}
use lib.ListN.{length, replicate, length-replicate, take, length-take}
use Rattle.breaks.specs.Breaks.{Row}
use Rattle.float.proofs.Number.{itself}
use Rattle.segments.specs.Segments.{first_holding, place_in, segment_at}

-- only a NaN differs from itself
pub nan_first : (ends : List Float) (s : Float) → ne s s ≡ true → 0 ≡ place_in ends s
unfolding is_nan
nan_first ends s e = rw (differs_from_itself s (subst T (sym e) tt)) refl

not-true : (b : Bool) → T (not b) → b ≡ false
not-true true h = absurd h
not-true false h = refl

pub number_first : (ends : List Float) (s : Float) {k : ℕ} → ne s s ≡ false → k ≡ first_holding ends s → k ≡ place_in ends s
number_first ends s e is = is ∙ rw (not-true (is_nan s) (itself s e)) refl

-- past the end of a row nothing is carried
pub past_row : (row : Row) (i : ℕ) → length row ≤ i → 0 ≡ segment_at row i
unfolding to_unsigned
past_row [] i h = refl
past_row (b ∷ row) zero h = absurd (omega arith)
past_row (b ∷ row) (suc i) h = past_row row i (omega arith)

-- all segments of a run but its last have places in a row of 2,048
pub in_array : (count n : ℕ) → n ≡ count - 1 → count ≤ 2048 → n ≤ length (replicate 2048 (of_bits binary64 0))
in_array count n e h = omega (arith, length-replicate 2048 (of_bits binary64 0))

pub few_taken : {A : Type 0} (row : List A) (n m : ℕ) → n ≤ m → length (take n row) ≤ m
few_taken row n m h = omega (arith, length-take n row)
