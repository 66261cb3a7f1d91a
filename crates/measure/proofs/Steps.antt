-- RK4 for two values is its law over any number of values, `grows`, at a list of two. Assumes nothing.
use Prim.Native.Nat.{ℕ, suc, ◌+◌, ◌-◌, ◌*◌, ◌≤◌, ◌<◌}
use mathlib.Core.List.{List, [], ◌∷◌}
use mathlib.Core.Path.{◌≡◌, refl, ◌∙◌}
use native.Mathlib.Omega.{arith}
use lib.Ieee.{Float, binary64, add}
use Rattle.float.specs.Numbers.{nought}
use Rattle.geometry.specs.Geometry.{point_at_t}
use Rattle.geometry.specs.declared.Point.{Point}
use Rattle.std.specs.Prelude.{Some, None}
use Rattle.arclen.specs.Rk4.{Rates, half_of, moved, grown_all, rk4, walk}
use Rattle.arclen.specs.Arclen.{tenth, deriv_of, speed_of}
use Rattle.arclen.proofs.Laws.{grows, stops2, stops3, stops4, goes, ends, done}
use Rattle.lookup.specs.Lookup.{xy_at, dir_at}
use Rattle.measure.specs.Measure.{error_of, along_samples, apply_of, walked_by}
use Rattle.measure.specs.Fallen.{asked_in, asked_all, fallen_among, fallen_by}
use Rattle.measure.specs.Two.{list_of, both_moved, both_grown, Rate, Step}
use Rattle.measure.specs.declared.MeasureFunctor.{MeasureFunctor}
use Rattle.measure.specs.declared.Pair.{Pair}
use Rattle.measure.proofs.Asked.{among_both}

-- the rates, by their lookups
module _ (row : List (List Float)) (m : MeasureFunctor) (t : Float) (y : Pair) where
  pub no_place : None ≡ xy_at row (along_samples m y.length) → apply_of row m t (list_of y) ≡ None
  unfolding apply_of
  no_place p = rw (← p)

  pub no_direction : {xy : Point} → Some xy ≡ xy_at row (along_samples m y.length) → None ≡ dir_at row (along_samples m y.length) →
      apply_of row m t (list_of y) ≡ None
  unfolding apply_of
  no_direction p d = rw (← p, ← d)

  pub both_found : {xy dir : Point} → Some xy ≡ xy_at row (along_samples m y.length) → Some dir ≡ dir_at row (along_samples m y.length) →
      apply_of row m t (list_of y) ≡ Some (speed_of m.af t ∷ error_of (speed_of m.af t) (deriv_of m.af t) (point_at_t m.q t) xy dir ∷ [])
  unfolding apply_of
  both_found p d = rw (← p, ← d)

-- two values
module _ (row : List (List Float)) (m : MeasureFunctor) (h t : Float) (y : Pair) where
  abbrev middle : Float
  middle = add binary64 t (half_of h)

  module _ {a : Pair} {i : ℕ} (p : Rate row m t y a i) where
    pub refused_second : apply_of row m middle (list_of (both_moved (half_of h) y a)) ≡ None → rk4 (apply_of row m) h t (list_of y) ≡ None
    unfolding moved
    refused_second q = stops2 (apply_of row m) h t (list_of y) p.is q

    module _ {b : Pair} {j : ℕ} (q : Rate row m middle (both_moved (half_of h) y a) b j) where
      pub refused_third : apply_of row m middle (list_of (both_moved (half_of h) y b)) ≡ None → rk4 (apply_of row m) h t (list_of y) ≡ None
      unfolding moved
      refused_third r = stops3 (apply_of row m) h t (list_of y) p.is q.is r

      module _ {c : Pair} {k : ℕ} (r : Rate row m middle (both_moved (half_of h) y b) c k) where
        pub refused_fourth : apply_of row m (add binary64 t h) (list_of (both_moved h y c)) ≡ None → rk4 (apply_of row m) h t (list_of y) ≡ None
        unfolding moved
        refused_fourth s = stops4 (apply_of row m) h t (list_of y) p.is q.is r.is s

        pub two_values : {d : Pair} {l : ℕ} → Rate row m (add binary64 t h) (both_moved h y c) d l →
            Step row m h t y (both_grown h y a b c d) (i + j + k + l)
        unfolding moved grown_all asked_in fallen_among
        two_values s = record {
          is = grows (apply_of row m) h t (list_of y) p.is q.is r.is s.is;
          count = rw (p.is, q.is, r.is) (omega (arith, p.count, q.count, r.count, s.count));
          few = omega (arith, p.few, q.few, r.few, s.few);
        }

-- ten steps, of which i are done
module _ (row : List (List Float)) (m : MeasureFunctor) where
  abbrev f : Rates
  f = apply_of row m

  asks : {z : List Float} (t : Float) (y : List Float) (i : ℕ) → i < 10 → rk4 f tenth t y ≡ Some z →
      fallen_among row m (asked_all f tenth (10 - i) t y) ≡
      fallen_among row m (asked_in f tenth t y) + fallen_among row m (asked_all f tenth (10 - (i + 1)) (add binary64 t tenth) z)
  unfolding asked_all
  asks {z} t y i less p =
      let one_less : 10 - i ≡ suc (10 - (i + 1)) = omega arith in
      rw (one_less, p) (among_both row m (asked_in f tenth t y) (asked_all f tenth (10 - (i + 1)) (add binary64 t tenth) z))

  pub record Walking (t : Float) (y : Pair) (n i : ℕ) : Type 0 where
    pub most : i ≤ 10
    pub few : n ≤ 8 * i
    pub is : walk f tenth 10 nought (nought ∷ nought ∷ []) ≡ walk f tenth (10 - i) t (list_of y)
    pub count : fallen_among row m (asked_all f tenth 10 nought (nought ∷ nought ∷ [])) ≡ n + fallen_among row m (asked_all f tenth (10 - i) t (list_of y))

  pub sets_out : Walking nought (record { length = nought; error = nought }) 0 0
  sets_out = record { most = omega arith; few = omega arith; is = refl; count = omega arith }

  module _ {t : Float} {y : Pair} {n i : ℕ} (w : Walking t y n i) where
    pub steps_on : {z : Pair} {k : ℕ} → i < 10 → Step row m tenth t y z k → Walking (add binary64 t tenth) z (n + k) (i + 1)
    steps_on {z} {k} less s =
        let more = asks t (list_of y) i less s.is in
        record {
          most = omega arith;
          few = omega (arith, s.few, w.few);
          is = w.is ∙ goes f tenth t (list_of y) 10 i less s.is;
          count = omega (arith, w.count, s.count, more);
        }

    pub stops_here_lem : i < 10 → rk4 f tenth t (list_of y) ≡ None → walked_by row m ≡ None
    unfolding walked_by
    stops_here_lem less p = rw (w.is, ends f tenth t (list_of y) 10 i less p) refl

    pub arrives : 10 ≤ i → (walked_by row m ≡ Some (record { error = y.error })) × (n ≡ fallen_by row m)
    unfolding walked_by fallen_by asked_all fallen_among
    arrives over =
        let whole = w.is ∙ done f tenth t (list_of y) 10 i over in
        let none : 10 - i ≡ 0 = omega arith in
        let all : fallen_among row m (asked_all f tenth 10 nought (nought ∷ nought ∷ [])) ≡ n + 0 = w.count ∙ rw none in
        (rw whole refl, rw whole (omega (arith, all)))
