-- What is an f64 already is not rounded again. Each statement for a reader is a type here, and a theorem of proofs/ is of that type: `itself` and
-- `one_times` of Own, `round_floor` of Exact. Statements only.
use Rattle.std.specs.Prelude.{◌≡◌, ℕ, ◌*◌, Bool, T, ℤ, Float}
use Rattle.std.specs.Float.{fin, binary64}
use Rattle.std.specs.Float.Ieee.{up, down, fits, round, mul}
use Rattle.float.specs.Numbers.{one}
use Rattle.float.specs.Float.{floor_of, round_of}

-- `round` gives back the f64 whose value, m * up e / down e, it is handed: bit for bit, a zero with its sign
abbrev pub RoundsToItself : Type 0
RoundsToItself = (s : Bool) (m : ℕ) (e : ℤ) → T (fits binary64 (fin s m e)) → round binary64 s (m * up e) (down e) ≡ fin s m e

-- 1 * x is x, bit for bit, for every f64: a NaN, an infinity and either zero among them
abbrev pub OneTimesIsItself : Type 0
OneTimesIsItself = (x : Float) → T (fits binary64 x) → mul binary64 one x ≡ x

-- a rounded number is its own floor: floor(round(x)) is round(x), for every f64
abbrev pub RoundedIsItsFloor : Type 0
RoundedIsItsFloor = (x : Float) → T (fits binary64 x) → floor_of (round_of x) ≡ round_of x
