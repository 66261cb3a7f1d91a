-- The worked values of document 01, and their neighbours: one table, and the statement that each of its rows holds. Statements only.
use Rattle.std.specs.Prelude.{◌≡◌, ℕ, ◌-◌, ◌^◌, Bool, true, false, List, [], ◌∷◌, ℤ, pos, negsuc, from_bits, Float}
use mathlib.Core.List.{Memᴰ}
use Rattle.std.specs.Float.Ieee as Ieee
use Rattle.std.specs.Float.{nan, inf, fin, binary64}
use Rattle.std.specs.Float.Ieee.{to_unsigned, to_signed}
use Rattle.float.specs.Float.{abs_of, close_to, trunc_of, floor_of, round_of, fract_of, root_of}

-- ---- a row: a function at an input, and what it gives
pub data Case : Type 0 where
  abs trunc floor round fract root to-i16 to-index : Float → Case
  is_close_lem : Float → Float → Case

pub data Output : Type 0 where
  float : Float → Output
  signed : ℤ → Output
  index : ℕ → Output
  says : Bool → Output

infix 70 ◌gives◌
pub data Row : Type 0 where
  ◌gives◌ : Case → Output → Row

abbrev pub evaluate : Case → Output
evaluate (abs x) = float (abs_of x)
evaluate (trunc x) = float (trunc_of x)
evaluate (floor x) = float (floor_of x)
evaluate (round x) = float (round_of x)
evaluate (fract x) = float (fract_of x)
evaluate (root x) = float (root_of x)
evaluate (to-i16 x) = signed (to_signed 15 x)
evaluate (to-index x) = index (to_unsigned 64 x)
evaluate (is_close_lem a b) = says (close_to a b)

abbrev pub computed : Row → Output
computed (c gives r) = evaluate c

abbrev pub expected : Row → Output
expected (c gives r) = r

-- ---- the inputs: n / d and -n / d, rounded; the f64 of a bit pattern; the zeros
abbrev num : ℕ → ℕ → Float
num n d = Ieee.round binary64 false n d

abbrev minus : ℕ → ℕ → Float
minus n d = Ieee.round binary64 true n d

abbrev bits : ℕ → Float
bits b = from_bits binary64 b

abbrev +0 : Float
+0 = fin false 0 (pos 0)

abbrev -0 : Float
-0 = fin true 0 (pos 0)

-- Halves go away from zero, and a zero keeps its sign: 0.49999999999999994 is the f64 just below a half, and 4503599627370497 is 2 ^ 52 + 1.
-- 1e-8 is not close to 0, and the f64 just below it is. The last four roots are of the least subnormal, three times that, the greatest subnormal
-- and the greatest f64.
abbrev pub table : List Row
table =
    round (num 5 2) gives float (num 3 1)
    ∷ round (minus 5 2) gives float (minus 3 1)
    ∷ round (num 49999999999999994 (10 ^ 17)) gives float +0
    ∷ round (minus 49999999999999994 (10 ^ 17)) gives float -0
    ∷ round (num 1 2) gives float (num 1 1)
    ∷ round (num 4503599627370497 1) gives float (num 4503599627370497 1)
    ∷ round -0 gives float -0
    ∷ round nan gives float nan
    ∷ round (inf true) gives float (inf true)
    ∷ floor (num 5 2) gives float (num 2 1)
    ∷ floor (minus 5 2) gives float (minus 3 1)
    ∷ floor (minus 1 (10 ^ 300)) gives float (minus 1 1)
    ∷ floor (num 1 2) gives float +0
    ∷ floor -0 gives float -0
    ∷ trunc (num 5 2) gives float (num 2 1)
    ∷ trunc (minus 5 2) gives float (minus 2 1)
    ∷ trunc (minus 1 2) gives float -0
    ∷ trunc -0 gives float -0
    ∷ fract (num 5 2) gives float (num 1 2)
    ∷ fract (minus 5 2) gives float (minus 1 2)
    ∷ fract (num 3 1) gives float +0
    ∷ fract (inf false) gives float nan
    ∷ abs (minus 5 2) gives float (num 5 2)
    ∷ abs -0 gives float +0
    ∷ abs (inf true) gives float (inf false)
    ∷ abs nan gives float nan
    ∷ to-i16 (num 40000 1) gives signed (pos 32767)
    ∷ to-i16 (minus 40000 1) gives signed (negsuc 32767)
    ∷ to-i16 (minus 3 2) gives signed (negsuc 0)
    ∷ to-i16 (num 65535 2) gives signed (pos 32767)
    ∷ to-i16 nan gives signed (pos 0)
    ∷ to-i16 (inf true) gives signed (negsuc 32767)
    ∷ to-index (minus 3 2) gives index 0
    ∷ to-index (num 29 10) gives index 2
    ∷ to-index nan gives index 0
    ∷ to-index (inf false) gives index (2 ^ 64 - 1)
    ∷ is_close_lem (num 1 (10 ^ 8)) +0 gives says false
    ∷ is_close_lem (bits 0x3e45_798e_e230_8c39) +0 gives says true
    ∷ is_close_lem nan +0 gives says false
    ∷ root -0 gives float -0
    ∷ root +0 gives float +0
    ∷ root (minus 1 1) gives float nan
    ∷ root (inf true) gives float nan
    ∷ root (inf false) gives float (inf false)
    ∷ root nan gives float nan
    ∷ root (num 4 1) gives float (num 2 1)
    ∷ root (num 1 4) gives float (num 1 2)
    ∷ root (num 2 1) gives float (bits 0x3ff6_a09e_667f_3bcd)
    ∷ root (num 1 10) gives float (bits 0x3fd4_3d13_6248_490f)
    ∷ root (bits 0x1) gives float (bits 0x1e60_0000_0000_0000)
    ∷ root (bits 0x3) gives float (bits 0x1e6b_b67a_e858_4caa)
    ∷ root (bits 0x000f_ffff_ffff_ffff) gives float (bits 0x1fff_ffff_ffff_ffff)
    ∷ root (bits 0x7fef_ffff_ffff_ffff) gives float (bits 0x5fef_ffff_ffff_ffff)
    ∷ []

abbrev pub WorkedValues : Type 0
WorkedValues = (r : Row) → Memᴰ r table → computed r ≡ expected r
