-- RK4 step by step: first over any number of values and any rates, then for the length. Assumes nothing.
use Prim.Native.Nat.{ℕ, suc, ◌+◌, ◌-◌, ◌≤◌, ◌<◌}
use mathlib.Core.Path.{◌≡◌, refl, ◌∙◌}
use mathlib.Core.List.{List, [], ◌∷◌}
use native.Mathlib.Omega.{arith}
use lib.Ieee.{Float, binary64, add}
use Rattle.std.specs.Prelude.{Option, Some, None}
use Rattle.arclen.specs.Rk4.{Rates, half_of, moved_by, moved, grown_by, grown_all, rk4, walk}
use Rattle.arclen.specs.Arclen.{speed_of, length_rates, rk4_one}
use Rattle.arclen.specs.One.{RatesOne, StepsOne}
use Rattle.arclen.specs.declared.ArclenFunctor.{ArclenFunctor}

-- any number of values: the step from its four rates, and the four ways in which it is refused
module _ (f : Rates) (h t : Float) (y : List Float) where
  abbrev middle : Float
  middle = add binary64 t (half_of h)

  abbrev first : List Float → Option (List Float)
  first k = f middle (moved (half_of h) y k)

  abbrev last : List Float → Option (List Float)
  last k = f (add binary64 t h) (moved h y k)

  pub grows : {k1 k2 k3 k4 : List Float} → f t y ≡ Some k1 → first k1 ≡ Some k2 → first k2 ≡ Some k3 → last k3 ≡ Some k4 →
      rk4 f h t y ≡ Some (grown_all h y k1 k2 k3 k4)
  unfolding rk4
  grows p q r s = rw (p, q, r, s)

  pub stops1 : f t y ≡ None → rk4 f h t y ≡ None
  unfolding rk4
  stops1 p = rw p

  pub stops2 : {k1 : List Float} → f t y ≡ Some k1 → first k1 ≡ None → rk4 f h t y ≡ None
  unfolding rk4
  stops2 p q = rw (p, q)

  pub stops3 : {k1 k2 : List Float} → f t y ≡ Some k1 → first k1 ≡ Some k2 → first k2 ≡ None → rk4 f h t y ≡ None
  unfolding rk4
  stops3 p q r = rw (p, q, r)

  pub stops4 : {k1 k2 k3 : List Float} → f t y ≡ Some k1 → first k1 ≡ Some k2 → first k2 ≡ Some k3 → last k3 ≡ None → rk4 f h t y ≡ None
  unfolding rk4
  stops4 p q r s = rw (p, q, r, s)

  -- n steps, of which k are done
  pub goes : {z : List Float} (n k : ℕ) → k < n → rk4 f h t y ≡ Some z → walk f h (n - k) t y ≡ walk f h (n - (k + 1)) (add binary64 t h) z
  unfolding walk
  goes n k less p =
      let one_less : n - k ≡ suc (n - (k + 1)) = omega arith in
      rw (one_less, p)

  pub ends : (n k : ℕ) → k < n → rk4 f h t y ≡ None → walk f h (n - k) t y ≡ None
  unfolding walk
  ends n k less p =
      let one_less : n - k ≡ suc (n - (k + 1)) = omega arith in
      rw (one_less, p)

  pub done : (n k : ℕ) → n ≤ k → walk f h (n - k) t y ≡ Some y
  unfolding walk
  done n k more =
      let none : n - k ≡ 0 = omega arith in
      rw none

-- one value, the length: the two middle rates are one
module _ (f : ArclenFunctor) (h t y : Float) where
  abbrev v : Float
  v = speed_of f (add binary64 t (half_of h))

  abbrev pub longer : Float
  longer = grown_by h y (speed_of f t) v v (speed_of f (add binary64 t h))

  longer_step : rk4 (length_rates f) h t (y ∷ []) ≡ Some (longer ∷ [])
  unfolding moved grown_all
  longer_step = grows (length_rates f) h t (y ∷ []) refl refl refl refl

  pub is_longer : rk4_one f h t y ≡ longer
  unfolding rk4_one
  is_longer = rw longer_step

  -- `rk4_one` is RK4 over one value
  pub one_value : rk4 (length_rates f) h t (y ∷ []) ≡ Some (rk4_one f h t y ∷ [])
  one_value = longer_step ∙ rw is_longer

  -- a step by its four rates, each asked for by itself
  pub step_one : {a b c d : Float} → RatesOne f t y a → RatesOne f (add binary64 t (half_of h)) (moved_by (half_of h) y a) b →
      RatesOne f (add binary64 t (half_of h)) (moved_by (half_of h) y b) c → RatesOne f (add binary64 t h) (moved_by h y c) d →
      StepsOne f h t y (grown_by h y a b c d)
  unfolding moved grown_all
  step_one p q r s = grows (length_rates f) h t (y ∷ []) p q r s

  -- and it is `rk4_one`
  pub stepped_one : {z : Float} → StepsOne f h t y z → rk4_one f h t y ≡ z
  unfolding rk4_one
  stepped_one p = rw p
