-- What it is to be cut to 16 bits, for a reader. Each statement is a type here, and a theorem of proofs/Modulo is of that type. Statements only.
use Rattle.std.specs.Prelude.{ℕ, ◌^◌, ◌<◌, ◌≡◌, ℤ, pos, ◌+ℤ◌}
use Rattle.std.specs.Int.Signed.{mag}
use Rattle.contour.specs.Implied.{mod16, cut_of}

-- `mod16` is the remainder modulo 2 ^ 16, of negative numbers too: from 0 to 2 ^ 16 - 1 the number itself, and 2 ^ 16 more changes nothing
pub record Remainder : Type 0 where
  pub small : (n : ℕ) → n < 2 ^ 16 → mod16 (pos n) ≡ n
  pub period : (z : ℤ) → mod16 (z +ℤ pos (2 ^ 16)) ≡ mod16 z

-- A number cut to 16 bits, so a cut sum, is the 16-bit number that is congruent to it modulo 2 ^ 16, and the only one.
pub record Cut (z : ℤ) : Type 0 where
  pub fits : mag (cut_of z) < 2 ^ 15
  pub congruent : mod16 (cut_of z) ≡ mod16 z
  pub only : (y : ℤ) → mag y < 2 ^ 15 → mod16 y ≡ mod16 z → y ≡ cut_of z

abbrev pub CutIsCongruent : Type 0
CutIsCongruent = (z : ℤ) → Cut z
