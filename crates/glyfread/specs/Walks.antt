-- The points from a place of a walk on. Definitions only.
use Rattle.std.specs.Prelude.{ℕ, suc, ◌≤◌, Bool, true, false, ◌&&◌, List, [], ◌∷◌, map, ◌≡◌, ℤ, pos, length, drop, Option, Some, None}
use Rattle.glyf.specs.Layout.{in16, all16, Taken, taken, cut, next, flags_of, differences, sums, is_on, laid}
use Rattle.glyfread.specs.declared.walk.Walk.{Walk}

-- flags, x and y of points
pub data Coords : Type 0 where
  coords : List ℕ → List ℤ → List ℤ → Coords

abbrev pub start_at : ℕ → ℕ → ℕ → Walk
start_at f x y = record { flags = f; xs = x; ys = y; due = 0; flag = 0; x = pos 0; y = pos 0 }

abbrev pub up_to : ℤ → ℤ → List ℕ → List ℤ → Taken (List ℤ) → Taken Coords
up_to x y fs dxs t = next t (λ dys end. taken (coords fs (sums x dxs) (sums y dys)) end)

-- the next n points of a walk: flags, x differences and y differences from its three places on, sums from its point on
unfoldable pub ahead : ℕ → List ℕ → Walk → Taken Coords
ahead n bs w =
    next (flags_of n w.due w.flag (drop w.flags bs)) (λ fs r₁.
    next (differences 2 16 fs (drop w.xs bs)) (λ dxs r₂.
    up_to w.x w.y fs dxs (differences 4 32 fs (drop w.ys bs))))

-- whether they stand there and are in 16 bits
unfoldable pub fits : Taken Coords → Bool
fits (taken (coords fs xs ys) end) = all16 xs && all16 ys
fits cut = false

abbrev pub xs_in : Taken Coords → List ℤ
xs_in (taken (coords fs xs ys) end) = xs
xs_in cut = []

abbrev pub ys_in : Taken Coords → List ℤ
ys_in (taken (coords fs xs ys) end) = ys
ys_in cut = []

-- their flags, 1 or 0
abbrev pub on_in : Taken Coords → List ℕ
on_in (taken (coords fs xs ys) end) = map is_on fs
on_in cut = []

abbrev pub in_front : Walk → Taken Coords → Taken Coords
in_front v (taken (coords fs xs ys) end) = taken (coords (v.flag ∷ fs) (v.x ∷ xs) (v.y ∷ ys)) end
in_front v cut = cut

-- one point further: the point stands in front of those after it; or the points are not in 16 bits
pub record Advanced (bs : List ℕ) (w v : Walk) : Type 0 where
  pub x_fits : in16 v.x ≡ true
  pub y_fits : in16 v.y ≡ true
  pub onward : (n : ℕ) → ahead (suc n) bs w ≡ in_front v (ahead n bs v)

abbrev pub Advances : List ℕ → Walk → Option Walk → Type 0
Advances bs w (Some v) = Advanced bs w v
Advances bs w None = (n : ℕ) → fits (ahead (suc n) bs w) ≡ false

pub record Roomy (n xs ys fs : ℕ) : Type 0 where
  pub for_xs : n ≤ xs
  pub for_ys : n ≤ ys
  pub for_flags : n ≤ fs

-- points walked into rows: where they fit and have room, each row has its part at its front
pub record Walked (t : Taken Coords) (n : ℕ) (xs₀ ys₀ : List ℤ) (fs₀ : List ℕ) (xs ys : List ℤ) (fs : List ℕ) : Type 0 where
  pub in_xs : fits t ≡ true → Roomy n (length xs₀) (length ys₀) (length fs₀) → xs ≡ laid (xs_in t) xs₀
  pub in_ys : fits t ≡ true → Roomy n (length xs₀) (length ys₀) (length fs₀) → ys ≡ laid (ys_in t) ys₀
  pub in_fs : fits t ≡ true → Roomy n (length xs₀) (length ys₀) (length fs₀) → fs ≡ laid (on_in t) fs₀
