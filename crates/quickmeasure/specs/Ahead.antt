-- What tells without a root that every sample asked for is there, for the contracts: how far the samples reach, and how the speed changes. Definitions only.
use Rattle.std.specs.Prelude.{ℕ, ◌-◌, ◌^◌, ◌≤◌, ◌<◌, true, ◌≡◌, List, length, pos, Float}
use Rattle.std.specs.Float.{binary64}
use Rattle.std.specs.Float.Ieee.{add, sub, mul, lt, le, of_int, of_bits}
use Rattle.float.specs.Numbers.{nought, four}
use Rattle.geometry.specs.Geometry.{square_norm_of}
use Rattle.arclen.specs.Rk4.{half_of}
use Rattle.arclen.specs.Arclen.{tenth, deriv_of}
use Rattle.quickarclen.specs.Stages.{time_at}
use Rattle.arclen.specs.declared.ArclenFunctor.{ArclenFunctor}

-- ---- how far s1 is ahead of s0: between 2 ^ -10 and 2 ^ 24
abbrev pub least_gap : Float
least_gap = of_bits binary64 0x3f50_0000_0000_0000

abbrev pub most_gap : Float
most_gap = of_bits binary64 0x4170_0000_0000_0000

-- the gap between the lengths s0 and s1, times the factor, ends before the last stored place
pub record WellBefore (row : List (List Float)) (s0 s1 factor : Float) : Type 0 where
  pub some : 1 < length row
  pub exact : length row ≤ 2 ^ 53
  pub from : le nought s0 ≡ true
  pub least : lt least_gap (sub binary64 s1 s0) ≡ true
  pub most : lt (sub binary64 s1 s0) most_gap ≡ true
  pub before_end : lt (add binary64 s0 (mul binary64 factor (sub binary64 s1 s0))) (of_int binary64 (pos (length row - 1))) ≡ true

-- ---- how the speed changes

-- 31 / 16
abbrev pub nearly_two : Float
nearly_two = of_bits binary64 0x3fff_0000_0000_0000

-- squares are between 2 ^ -10 and 2 ^ 60
abbrev pub least_square : Float
least_square = least_gap

abbrev pub most_square : Float
most_square = of_bits binary64 0x43b0_0000_0000_0000

-- a, b and d are the squares of the speeds at the start, the middle and the end of a step
pub record EvenStep (a b d : Float) : Type 0 where
  pub first : lt a (mul binary64 four b) ≡ true
  pub middle : lt (mul binary64 nearly_two b) (add binary64 a d) ≡ true
  pub least : lt least_square b ≡ true
  pub most : lt (add binary64 a d) most_square ≡ true

abbrev pub square_at : ArclenFunctor → Float → Float
square_at f t = square_norm_of (deriv_of f t)

-- each of the first k steps is such a one
pub record Even (f : ArclenFunctor) (k : ℕ) : Type 0 where
  pub is : (i : ℕ) → i < k →
      EvenStep (square_at f (time_at tenth i)) (square_at f (add binary64 (time_at tenth i) (half_of tenth))) (square_at f (add binary64 (time_at tenth i) tenth))
