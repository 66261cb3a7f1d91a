-- At most two of the lookups of a stage fall, place and direction; so at most 80 of a measure's. Assumes nothing.
use Prim.Native.Nat.{ℕ, zero, suc, ◌+◌, ◌*◌, ◌≤◌}
use mathlib.Core.Bool.{Bool, true, false, cond}
use mathlib.Core.Path.{◌≡◌}
use mathlib.Core.List.{List, [], ◌∷◌, ◌++◌}
use native.Mathlib.Omega.{arith}
use lib.ListN.{get_or}
use lib.Ieee.{Float, nan, binary64, add}
use Rattle.float.specs.Numbers.{nought}
use Rattle.geometry.specs.declared.Quad.{Quad}
use Rattle.std.specs.Prelude.{Option, Some, None}
use Rattle.arclen.specs.Rk4.{Rates, half_of, moved, rk4}
use Rattle.arclen.specs.Arclen.{tenth}
use Rattle.lookup.specs.Lookup.{fell}
use Rattle.measure.specs.Measure.{along_samples, apply_of, walked_by, measure_functor_of}
use Rattle.measure.specs.Fallen.{asking, asked_in, asked_all, fallen_at, fallen_among, unless_last, fallen_by, fallen_of}
use Rattle.measure.specs.declared.MeasureFunctor.{MeasureFunctor}
use Rattle.measure.specs.declared.Measure.{Measure}

module _ (row : List (List Float)) (m : MeasureFunctor) where
  pub among_both : (a b : List (List Float)) → fallen_among row m (a ++ b) ≡ fallen_among row m a + fallen_among row m b
  unfolding fallen_among
  among_both [] b = omega arith
  among_both (y ∷ a) b =
      let rest = among_both a b in
      omega arith

  -- ---- at most two a stage, eight a step
  pub two : (y : Float) → fallen_at row m y ≤ 2
  two y = go (fell row (along_samples m y))
    where
      go : (b : Bool) → cond b 2 0 ≤ 2
      go true = omega arith
      go false = omega arith

  then_most : (r : Option (List Float)) (g : List Float → List (List Float)) (b : ℕ) → ((k : List Float) → fallen_among row m (g k) ≤ b) → fallen_among row m (asking r g) ≤ b
  unfolding fallen_among
  then_most (Some k) g b h = h k
  then_most None g b h = omega arith

  one_more : (y : List Float) (ys : List (List Float)) (b : ℕ) → fallen_among row m ys ≤ b → fallen_among row m (y ∷ ys) ≤ b + 2
  unfolding fallen_among
  one_more y ys b h =
      let first = two (get_or y 0 nan) in
      omega arith

  nothing : fallen_among row m [] ≤ 0
  unfolding fallen_among
  nothing = omega arith

  in_most : (f : Rates) (h t : Float) (y : List Float) → fallen_among row m (asked_in f h t y) ≤ 8
  unfolding asked_in
  in_most f h t y =
      one_more y _ 6 (then_most (f t y) _ 6 (λ k1.
      one_more _ _ 4 (then_most (f (add binary64 t (half_of h)) (moved (half_of h) y k1)) _ 4 (λ k2.
      one_more _ _ 2 (then_most (f (add binary64 t (half_of h)) (moved (half_of h) y k2)) _ 2 (λ k3.
      one_more (moved h y k3) [] 0 nothing))))))

  all_most : (f : Rates) (h : Float) (n : ℕ) (t : Float) (y : List Float) → fallen_among row m (asked_all f h n t y) ≤ 8 * n
  unfolding asked_all fallen_among
  all_most f h zero t y = omega arith
  all_most f h (suc n) t y =
      let here = in_most f h t y in
      let later = then_most (rk4 f h t y) (asked_all f h n (add binary64 t h)) (8 * n) (all_most f h n (add binary64 t h)) in
      rw (among_both (asked_in f h t y) (asking (rk4 f h t y) (asked_all f h n (add binary64 t h)))) (omega arith)

  pub walk_most : fallen_by row m ≤ 80
  unfolding fallen_by
  walk_most = go (walked_by row m)
    where
      most : fallen_among row m (asked_all (apply_of row m) tenth 10 nought (nought ∷ nought ∷ [])) ≤ 80
      most = all_most (apply_of row m) tenth 10 nought (nought ∷ nought ∷ [])

      go : (x : Option Measure) → unless_last x (fallen_among row m (asked_all (apply_of row m) tenth 10 nought (nought ∷ nought ∷ []))) ≤ 80
      go (Some r) = most
      go None = omega arith

pub fallen_most : (row : List (List Float)) (s0 s1 : Float) (q : Quad) → fallen_of row s0 s1 q ≤ 80
unfolding fallen_of
fallen_most row s0 s1 q = walk_most row (measure_functor_of s0 s1 q)
