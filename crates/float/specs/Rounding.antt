-- What IEEE 754 asks of rounding and of the root, over exact values. A finite f64 `fin s m e` is m * 2 ^ e, which is m * up e / down e, negative
-- where s is true; and every one is a whole number of smallest f64s, 2 ^ -1074. Each statement for a reader is a type here, and a theorem of
-- proofs/ is of that type: `truncates_toward_zero`, `floors_downward` and `rounds_to_nearest` of Exact, `root_nearest` of Nearest. Statements only.
use Rattle.std.specs.Prelude.{◌≡◌, ℕ, suc, ◌+◌, ◌-◌, ◌*◌, ◌^◌, ◌<◌, ◌≤◌, Bool, true, false, T, ℤ, Float}
use Rattle.std.specs.Float.{fin, binary64}
use Rattle.std.specs.Float.Ieee.{up, down, fits}
use Rattle.std.specs.Float.Ieee.Exact.{HasValue}
use Rattle.float.specs.Float.{trunc_of, floor_of, round_of, root_of}

-- ---- r for an x of the size a / d and the sign s: a whole number, whose size is n, with the sign s

-- toward zero: n is at most a / d, and n + 1 is above it
pub record TowardZero (s : Bool) (a d : ℕ) (r : Float) : Type 0 where
  pub n : ℕ
  pub whole : HasValue r s n 1
  pub least : n * d ≤ a
  pub most : a < (n + 1) * d

-- downward: r is at most x, and r + 1 is above x. Below zero the sizes are the other way round: -n is at most -(a / d), and -n + 1 is above it
abbrev pub AtMost : Bool → ℕ → ℕ → ℕ → Type 0
AtMost false n a d = n * d ≤ a
AtMost true n a d = a ≤ n * d

abbrev pub NextAbove : Bool → ℕ → ℕ → ℕ → Type 0
NextAbove false n a d = a < (n + 1) * d
NextAbove true n a d = n * d < a + d

pub record Downward (s : Bool) (a d : ℕ) (r : Float) : Type 0 where
  pub n : ℕ
  pub whole : HasValue r s n 1
  pub least : AtMost s n a d
  pub most : NextAbove s n a d

-- to the nearest: n and a / d are at most a half apart, and where a / d is k and a half, n is k + 1, which is farther from zero
pub record ToNearest (s : Bool) (a d : ℕ) (r : Float) : Type 0 where
  pub n : ℕ
  pub whole : HasValue r s n 1
  pub least : 2 * (n * d) ≤ 2 * a + d
  pub most : 2 * a ≤ 2 * (n * d) + d
  pub tie : (k : ℕ) → 2 * a ≡ 2 * (k * d) + d → n ≡ k + 1

abbrev pub TruncatesTowardZero : Type 0
TruncatesTowardZero = (s : Bool) (m : ℕ) (e : ℤ) → T (fits binary64 (fin s m e)) → TowardZero s (m * up e) (down e) (trunc_of (fin s m e))

abbrev pub FloorsDownward : Type 0
FloorsDownward = (s : Bool) (m : ℕ) (e : ℤ) → T (fits binary64 (fin s m e)) → Downward s (m * up e) (down e) (floor_of (fin s m e))

abbrev pub RoundsToNearest : Type 0
RoundsToNearest = (s : Bool) (m : ℕ) (e : ℤ) → T (fits binary64 (fin s m e)) → ToNearest s (m * up e) (down e) (round_of (fin s m e))

-- ---- the root r of an x above zero

-- It is an f64, and no f64 is as near. x is n smallest f64s, so its root is the root of n * 2 ^ 1074 of them; r is p of them, and y another f64, of the
-- size q. The root is nearer to r than to y where it lies on r's side of the middle between them, so where four times its square, 4 * (n * 2 ^ 1074),
-- lies on that side of (p + q) ^ 2; for a y below zero, of (p - q) ^ 2, where p - q counts as 0 if q is more.
pub record NearestRoot (x r : Float) : Type 0 where
  pub n : ℕ
  pub p : ℕ
  pub x_is : HasValue x false n (2 ^ 1074)
  pub r_is : HasValue r false p (2 ^ 1074)
  pub an_f64 : T (fits binary64 r)
  pub above : (y : Float) (q : ℕ) → T (fits binary64 y) → HasValue y false q (2 ^ 1074) → p < q → 4 * (n * 2 ^ 1074) < (p + q) * (p + q)
  pub below : (y : Float) (q : ℕ) → T (fits binary64 y) → HasValue y false q (2 ^ 1074) → q < p → (p + q) * (p + q) < 4 * (n * 2 ^ 1074)
  pub negative : (y : Float) (q : ℕ) → T (fits binary64 y) → HasValue y true q (2 ^ 1074) → (p - q) * (p - q) < 4 * (n * 2 ^ 1074)

abbrev pub RootIsNearest : Type 0
RootIsNearest = (m : ℕ) (e : ℤ) → T (fits binary64 (fin false (suc m) e)) → NearestRoot (fin false (suc m) e) (root_of (fin false (suc m) e))
