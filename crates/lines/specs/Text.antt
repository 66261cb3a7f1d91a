-- Numbers as text, and text put into a buffer. Definitions only.
use Rattle.std.specs.Prelude.{ℕ, zero, suc, ◌+◌, ◌/◌, ◌%◌, ◌^◌, min, Bool, true, false, List, [], ◌∷◌, ◌++◌, ◌≡◌, ltb, ℤ, pos, negsuc, Float, length}
use Rattle.std.specs.Float.{binary64, nan, inf, fin}
use Rattle.std.specs.Float.Ieee.{to_bits}
use Rattle.std.proofs.lemmas.List.Edits.{sets}

-- text put into a buffer from place `at` on: what does not fit is left out, and the next place is then the buffer's length
pub record Put (out : List ℕ) (at : ℕ) (text out' : List ℕ) (r : ℕ) : Type 0 where
  pub held : out' ≡ sets out at text
  pub next : r ≡ min (at + length text) (length out)

-- a digit: `0` to `9`, then `a` to `f`
abbrev pub glyph_from : Bool → ℕ → ℕ
glyph_from true d = 48 + d
glyph_from false d = 87 + d

abbrev pub glyph_of : ℕ → ℕ
glyph_of d = glyph_from (ltb d 10) d

-- the digits of n / 10, where that is not 0, and the last one; in k steps
abbrev pub last_after : Bool → ℕ → List ℕ → List ℕ
last_after true n front = (48 + n) ∷ []
last_after false n front = front ++ ((48 + n % 10) ∷ [])

unfoldable pub decimal_in : ℕ → ℕ → List ℕ
decimal_in zero n = []
decimal_in (suc k) n = last_after (ltb n 10) n (decimal_in k (n / 10))

-- n has no more digits than n + 1
unfoldable pub decimal_of : ℕ → List ℕ
decimal_of n = decimal_in (suc n) n

unfoldable pub signed_of : ℤ → List ℕ
signed_of (pos n) = decimal_of n
signed_of (negsuc n) = 45 ∷ decimal_of (suc n)

-- the last k digits of b in base 16
unfoldable pub hex_from : ℕ → ℕ → List ℕ
hex_from zero b = []
hex_from (suc k) b = glyph_of (b / 16 ^ k % 16) ∷ hex_from k b

-- the bits of a float; all of NaN's are written as one
unfoldable pub bits_of : Float → ℕ
bits_of nan = 0x7ff8_0000_0000_0000
bits_of (inf s) = to_bits binary64 (inf s)
bits_of (fin s m e) = to_bits binary64 (fin s m e)

unfoldable pub hex_of : Float → List ℕ
hex_of x = hex_from 16 (bits_of x)
