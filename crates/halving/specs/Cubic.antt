-- A cubic made quads, in document 02's words and over exact numbers. A number is a whole number of a unit, 1 / 2 ^ e for the e that is given
-- with it: 1 for a point of 16 bits, and each halving goes to an eighth. Definitions only.
use Rattle.std.specs.Prelude.{ℕ, zero, suc, ◌+◌, ◌*◌, ◌/◌, ◌^◌, Bool, true, false, ◌||◌, List, [], ◌∷◌, ◌++◌, ltb, ℤ, pos, negsuc, neg_ℤ, nat_abs, ◌+ℤ◌, ◌-ℤ◌, ◌*ℤ◌}

-- one coordinate of four points; both coordinates
pub record Four : Type 0 where
  pub p0 : ℤ
  pub p1 : ℤ
  pub p2 : ℤ
  pub p3 : ℤ

pub record Curve : Type 0 where
  pub x : Four
  pub y : Four

abbrev pub times : ℕ → ℤ → ℤ
times n z = pos n *ℤ z

-- ---- halving, at 1/2 by midpoints

-- the midpoint, in halves of the unit
abbrev pub mid : ℤ → ℤ → ℤ
mid a b = a +ℤ b

-- the midpoints of neighbours, of those, and of those: in halves, quarters and eighths of the unit
abbrev pub mid01 : Four → ℤ
mid01 f = mid f.p0 f.p1

abbrev pub mid12 : Four → ℤ
mid12 f = mid f.p1 f.p2

abbrev pub mid23 : Four → ℤ
mid23 f = mid f.p2 f.p3

abbrev pub mid012 : Four → ℤ
mid012 f = mid (mid01 f) (mid12 f)

abbrev pub mid123 : Four → ℤ
mid123 f = mid (mid12 f) (mid23 f)

abbrev pub middle : Four → ℤ
middle f = mid (mid012 f) (mid123 f)

-- the halves, in eighths of the unit
abbrev pub first_half : Four → Four
first_half f = record { p0 = times 8 f.p0; p1 = times 4 (mid01 f); p2 = times 2 (mid012 f); p3 = middle f }

abbrev pub second_half : Four → Four
second_half f = record { p0 = middle f; p1 = times 2 (mid123 f); p2 = times 4 (mid23 f); p3 = times 8 f.p3 }

abbrev pub first_part : Curve → Curve
first_part c = record { x = first_half c.x; y = first_half c.y }

abbrev pub second_part : Curve → Curve
second_part c = record { x = second_half c.x; y = second_half c.y }

-- ---- when to halve, and what a part becomes

-- p3 - 3 p2 + 3 p1 - p0
abbrev pub third_difference : Four → ℤ
third_difference f = f.p3 -ℤ times 3 f.p2 +ℤ times 3 f.p1 -ℤ f.p0

-- it is more than 8 in size
abbrev pub is_bent : ℕ → Four → Bool
is_bent e f = ltb (8 * 2 ^ e) (nat_abs (third_difference f))

-- in some coordinate
abbrev pub bent : ℕ → Curve → Bool
bent e c = is_bent e c.x || is_bent e c.y

-- (3 p1 + 3 p2 - p0 - p3) / 4, in quarters of the unit
abbrev pub control : Four → ℤ
control f = times 3 f.p1 +ℤ times 3 f.p2 -ℤ f.p0 -ℤ f.p3

-- ---- a point that is written: rounded, halves away from zero; 1 on-curve, 0 off

-- n / u to the nearest whole number, a half up
abbrev pub near : ℕ → ℕ → ℕ
near u n = (2 * n + u) / (2 * u)

abbrev pub nearest : ℕ → ℤ → ℤ
nearest e (pos n) = pos (near (2 ^ e) n)
nearest e (negsuc n) = neg_ℤ (pos (near (2 ^ e) (suc n)))

-- 17: outside 16 bits
abbrev pub outside : ℤ → Bool
outside (pos n) = ltb 32767 n
outside (negsuc n) = ltb 32767 n

abbrev pub point : ℤ → ℤ → ℤ → List ℤ
point x y on = x ∷ y ∷ on ∷ []

abbrev pub rounded : ℕ → ℤ → ℤ → ℤ → List ℤ
rounded e x y on = point (nearest e x) (nearest e y) on

-- ---- the points between a cubic's ends

-- the control of the quad that replaces a part
abbrev pub control_point : ℕ → Curve → List ℤ
control_point e c = rounded (e + 2) (control c.x) (control c.y) (pos 0)

-- where the halves meet: the start of the second
abbrev pub start_point : ℕ → Curve → List ℤ
start_point e c = rounded e c.x.p0 c.y.p0 (pos 1)

abbrev pub halved_if : Bool → List (List ℤ) → List (List ℤ) → List (List ℤ)
halved_if true parts one = parts
halved_if false parts one = one

-- with so many halvings left: of a part that is not halved its control; else the first half's, the meeting point, the second half's
unfoldable pub between : ℕ → ℕ → Curve → List (List ℤ)
between zero e c = control_point e c ∷ []
between (suc left) e c =
    halved_if (bent e c)
    (between left (e + 3) (first_part c) ++ (start_point (e + 3) (second_part c) ∷ between left (e + 3) (second_part c)))
    (control_point e c ∷ [])
