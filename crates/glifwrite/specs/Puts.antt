-- Bytes put into a row, and the text of a point. Definitions only.
use Rattle.std.specs.Prelude.{ℕ, zero, suc, ◌+◌, ◌-◌, min, Bool, List, [], ◌∷◌, ℤ, length, get_or, set, replicate}
use Rattle.std.proofs.lemmas.List.Edits.{sets}
use Rattle.lines.specs.Text.{signed_of}
use Rattle.gliftext.specs.Pick.{pick, more, sum}

-- the next place, and the row
pub data Putting : Type 0 where
  put : ℕ → List ℕ → Putting

-- past the end of the row nothing is stored, but the place goes on
unfoldable pub put_byte : ℕ → Putting → Putting
put_byte b (put at out) = put (more at) (set out at b)

-- k bytes from a place on
unfoldable pub put_range : List ℕ → ℕ → ℕ → Putting → Putting
put_range bytes from zero q = q
put_range bytes from (suc k) q = put_byte (get_or bytes (sum from k) 0) (put_range bytes from k q)

-- a number in decimal, no longer than eight bytes
abbrev pub no_digits : List ℕ
no_digits = replicate 8 0

unfoldable pub put_number : ℤ → Putting → Putting
put_number v q = put_range (sets no_digits 0 (signed_of v)) 0 (min (0 + length (signed_of v)) (length no_digits) - 0) q

-- ` type="line"/>`, ` type="qcurve"/>`, `/>`
abbrev pub kinds : List ℕ
kinds =
    32 ∷ 116 ∷ 121 ∷ 112 ∷ 101 ∷ 61 ∷ 34 ∷ 108 ∷ 105 ∷ 110 ∷ 101 ∷ 34 ∷ 47 ∷ 62 ∷
    32 ∷ 116 ∷ 121 ∷ 112 ∷ 101 ∷ 61 ∷ 34 ∷ 113 ∷ 99 ∷ 117 ∷ 114 ∷ 118 ∷ 101 ∷ 34 ∷ 47 ∷ 62 ∷
    47 ∷ 62 ∷ []

-- an on-curve point is a line after an on-curve one, and a qcurve after an off-curve one
unfoldable pub put_kind : Bool → Bool → Putting → Putting
put_kind on before q =
    put_range kinds (pick on (pick before 0 14) 30) (pick on (pick before 14 30) 32 - pick on (pick before 0 14) 30) q

-- `<point x="`, `" y="`, `"`
abbrev pub opening : List ℕ
opening = 60 ∷ 112 ∷ 111 ∷ 105 ∷ 110 ∷ 116 ∷ 32 ∷ 120 ∷ 61 ∷ 34 ∷ []

abbrev pub between : List ℕ
between = 34 ∷ 32 ∷ 121 ∷ 61 ∷ 34 ∷ []

abbrev pub closing : List ℕ
closing = 34 ∷ []

unfoldable pub put_point : ℤ → ℤ → Bool → Bool → Putting → Putting
put_point x y on before q =
    put_kind on before
    (put_range closing 0 (1 - 0)
    (put_number y
    (put_range between 0 (5 - 0)
    (put_number x (put_range opening 0 (10 - 0) q)))))
