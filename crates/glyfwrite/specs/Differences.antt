-- A difference as the code has it: whether it goes up, and how far. Its bits, its bytes and whether it fits, as Layout has them. Definitions only.
use Rattle.std.specs.Prelude.{ℕ, ◌+◌, ◌-◌, Bool, true, false, List, [], ◌∷◌, eqb, leb, ℤ, pos, nat_abs}
use Rattle.std.specs.Int.Signed.{le_z}
use Rattle.glyf.specs.Layout.{Size, still, small, large, size_if, bits_by, word_bytes, is_on}
use Rattle.glyfwrite.specs.declared.difference.Difference.{Difference}

abbrev pub difference_of : ℤ → Difference
difference_of d = record { up = le_z (pos 0) d; size = nat_abs d }

abbrev pub sized : Difference → Size
sized s = size_if (eqb s.size 0) (leb s.size 255)

unfoldable pub bits_in : ℕ → ℕ → Difference → ℕ
bits_in short same s = bits_by (sized s) s.up short same

-- the flag of a point by its two differences
unfoldable pub flag_by : ℕ → Difference → Difference → ℕ
flag_by f dx dy = is_on f + (bits_in 2 16 dx + bits_in 4 32 dy)

-- the word of a long one
abbrev pub long_by : Bool → ℕ → ℕ
long_by true n = n
long_by false n = 65535 - (n - 1)

abbrev pub coded_by : Size → Difference → List ℕ
coded_by still s = []
coded_by small s = s.size ∷ []
coded_by large s = word_bytes (long_by s.up s.size)

unfoldable pub code_in : Difference → List ℕ
code_in s = coded_by (sized s) s

-- in 16 bits
abbrev pub fits_by : Bool → ℕ → Bool
fits_by true n = leb n 32767
fits_by false n = leb n 32768
