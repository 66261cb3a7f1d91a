-- Laws for callers: how a walk carries its place along; and that no more segments are counted than there are points. Assumes nothing.
use Prim.Native.Nat.{ℕ, zero, suc, ◌+◌, ◌≤◌}
use Rattle.std.specs.Prelude.{Bool, true, false, List, [], ◌∷◌, ◌≡◌, length}
use Rattle.std.proofs.Math.Path.{refl}
use Rattle.std.proofs.Common.{ap, arith}
use Rattle.std.proofs.Math.Numerals.{add-one, unary_clauses}
use Rattle.refusals.specs.Refusals.{is_on}
use Rattle.outline.specs.Segments.{one_more, count_of, end_of, place_after}

-- ---- places: no segment on, one more, and k segments after j

module _ (fs : List ℕ) (a : ℕ) where
  pub place_none : a ≡ place_after fs a 0
  unfolding place_after
  place_none = refl

  pub place_more : (k : ℕ) → place_after fs a (k + 1) ≡ end_of fs (place_after fs a k)
  unfolding place_after
  place_more k = rw add-one

  pub place_after_lem : (j k : ℕ) → place_after fs a (j + k) ≡ place_after fs (place_after fs a j) k
  unfolding place_after
  place_after_lem j zero = simp unary_clauses
  place_after_lem j (suc k) = simp unary_clauses (ap (end_of fs) (place_after_lem j k))

-- ---- there are no more segments than points

more_few : (b : Bool) (n m : ℕ) → n ≤ m → one_more b n ≤ suc m
more_few true n m h = omega arith
more_few false n m h = omega arith

pub count_few : (fs : List ℕ) → count_of fs ≤ length fs
unfolding count_of
count_few [] = omega arith
count_few (f ∷ fs) = more_few (is_on f) (count_of fs) (length fs) (count_few fs)
