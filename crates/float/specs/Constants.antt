-- The constants of the documents, each with the fraction n / d that it stands for: the fraction itself, or the f64 nearest to it. One table for all
-- crates; the theorems `numbers_are_exact` and `numbers_are_nearest` of proofs/Constants are of the statements here. Statements only.
use Rattle.std.specs.Prelude.{◌≡◌, ℕ, ◌^◌, false, List, [], ◌∷◌, Float}
use Rattle.std.specs.Float.{binary64}
use Rattle.std.specs.Float.Ieee.{round}
use Rattle.std.specs.Float.Ieee.Exact.{HasValue}
use Rattle.float.specs.Numbers.{nought, half, one, two, three, four, five, six, ten, sixteen, hundred}
use Rattle.float.specs.Numbers.{fiftieth, two_hundredth, epsilon, tenth, hundredth}
use Rattle.float.specs.Float.{tiny}

-- a constant, and the n and d of its fraction
pub data Constant : Type 0 where
  constant : Float → ℕ → ℕ → Constant

-- it is n / d itself
abbrev pub IsExact : Constant → Type 0
IsExact (constant x n d) = HasValue x false n d

-- it is the f64 nearest to n / d
abbrev pub IsNearest : Constant → Type 0
IsNearest (constant x n d) = x ≡ round binary64 false n d

-- of each constant of a list
abbrev pub Each : (Constant → Type 0) → List Constant → Type 0
Each P [] = Unit
Each P (c ∷ cs) = P c × Each P cs

-- 5.0 is the factor of an angle in the measure, 3.0 and 4.0 the bounds of the last score, 1 / 16 of the penalty's whole number the penalty
abbrev pub exact_ones : List Constant
exact_ones =
    constant nought 0 1
    ∷ constant half 1 2
    ∷ constant one 1 1
    ∷ constant two 2 1
    ∷ constant three 3 1
    ∷ constant four 4 1
    ∷ constant five 5 1
    ∷ constant six 6 1
    ∷ constant ten 10 1
    ∷ constant sixteen 16 1
    ∷ constant hundred 100 1
    ∷ constant epsilon 1 (2 ^ 52)
    ∷ []

-- 0.02, 0.005, 1e-8, 1 / 10 and 1 / 100
abbrev pub nearest_ones : List Constant
nearest_ones =
    constant fiftieth 2 100
    ∷ constant two_hundredth 5 1000
    ∷ constant tiny 1 (10 ^ 8)
    ∷ constant tenth 1 10
    ∷ constant hundredth 1 100
    ∷ []

abbrev pub NumbersAreExact : Type 0
NumbersAreExact = Each IsExact exact_ones

abbrev pub NumbersAreNearest : Type 0
NumbersAreNearest = Each IsNearest nearest_ones
