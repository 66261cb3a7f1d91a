-- RK4 over any number of values, operation for operation as the Rust's `rk4`. The rates may be refused, which is None, and ends the work. Definitions only.
use Rattle.std.specs.Prelude.{ℕ, zero, suc, List, [], ◌∷◌, Float, Option, Some, option_and_then}
use Rattle.std.specs.Float.{binary64}
use Rattle.std.specs.Float.Ieee.{add, mul, div}
use Rattle.float.specs.Numbers.{half, two, six}

-- f of what is there
abbrev pub and_then : {A B : Type 0} → Option A → (A → Option B) → Option B
and_then x f = option_and_then f x

-- the rates of the values, at a time and the values there
abbrev pub Rates : Type 0
Rates = Float → List Float → Option (List Float)

-- half of a step
abbrev pub half_of : Float → Float
half_of h = mul binary64 h half

-- y + a * k
abbrev pub moved_by : Float → Float → Float → Float
moved_by a y k = add binary64 y (mul binary64 a k)

-- the same, value by value
unfoldable pub moved : Float → List Float → List Float → List Float
moved a [] ks = []
moved a (y ∷ ys) [] = []
moved a (y ∷ ys) (k ∷ ks) = moved_by a y k ∷ moved a ys ks

-- y + h / 6 * (a + d + 2 * (c + b)), with the four rates a, b, c and d
abbrev pub grown_by : Float → Float → Float → Float → Float → Float → Float
grown_by h y a b c d =
    add binary64 y (mul binary64 (div binary64 h six) (add binary64 (add binary64 a d) (mul binary64 two (add binary64 c b))))

-- the same, value by value
unfoldable pub grown_all : Float → List Float → List Float → List Float → List Float → List Float → List Float
grown_all h [] k1 k2 k3 k4 = []
grown_all h (y ∷ ys) [] k2 k3 k4 = []
grown_all h (y ∷ ys) (a ∷ k1) [] k3 k4 = []
grown_all h (y ∷ ys) (a ∷ k1) (b ∷ k2) [] k4 = []
grown_all h (y ∷ ys) (a ∷ k1) (b ∷ k2) (c ∷ k3) [] = []
grown_all h (y ∷ ys) (a ∷ k1) (b ∷ k2) (c ∷ k3) (d ∷ k4) = grown_by h y a b c d ∷ grown_all h ys k1 k2 k3 k4

-- one step of the length h, from the time t and the values y
unfoldable pub rk4 : Rates → Float → Float → List Float → Option (List Float)
rk4 f h t y =
    and_then (f t y) (λ k1.
    and_then (f (add binary64 t (half_of h)) (moved (half_of h) y k1)) (λ k2.
    and_then (f (add binary64 t (half_of h)) (moved (half_of h) y k2)) (λ k3.
    and_then (f (add binary64 t h) (moved h y k3)) (λ k4.
    Some (grown_all h y k1 k2 k3 k4)))))

-- n steps, with the time adding up
unfoldable pub walk : Rates → Float → ℕ → Float → List Float → Option (List Float)
walk f h zero t y = Some y
walk f h (suc n) t y = and_then (rk4 f h t y) (walk f h n (add binary64 t h))
