-- What is written and read back, and what is read and written again: the statements. Proofs are in proofs/Back, Box and Again.
use Rattle.std.specs.Prelude.{ℕ, ◌<◌, Bool, true, ◌&&◌, List, [], ◌∷◌, map, ◌≡◌, ltb, ℤ, pos, length, get_or, drop}
use Rattle.std.specs.Int.Signed.{le_z}
use Rattle.glyf.specs.Layout.{Glyph, glyph, done, is_on, all16, signed, Taken, taken, next, word, several, least, greatest, box_of}
use Rattle.glyf.specs.Layout.{trimmed, fitting, bytes_of, described, written_of}

-- the coordinates are of 16 bits, as rows of i16 hold them
pub record Held (g : Glyph) : Type 0 where
  pub xs : all16 g.xs ≡ true
  pub ys : all16 g.ys ≡ true

-- the same ends, points and instructions, flags 1 or 0
abbrev pub as_read : Glyph → Glyph
as_read g = glyph g.ends g.xs g.ys (map is_on g.flags) g.instructions

-- each number is a byte
unfoldable pub all_bytes : List ℕ → Bool
all_bytes [] = true
all_bytes (b ∷ bs) = ltb b 256 && all_bytes bs

-- the box that a description has after its first word
abbrev pub box_in : List ℕ → Taken (List ℤ)
box_in bytes = next (word bytes) (λ n rest. next (several word 4 rest) (λ ws end. taken (map signed ws) end))

-- what is written is a description by the layout, and says the same ends, the points up to the last end and the instructions
abbrev pub WrittenReadBack : Type 0
WrittenReadBack = (room : ℕ) (g : Glyph) (bytes : List ℕ) → Held g → written_of room g ≡ done bytes → described bytes ≡ done (as_read (trimmed g))

-- its box is that of the points
abbrev pub BoxWritten : Type 0
BoxWritten =
    (room : ℕ) (g : Glyph) (bytes : List ℕ) → Held g → written_of room g ≡ done bytes →
    box_in bytes ≡ taken (box_of (trimmed g).xs (trimmed g).ys) (drop 10 bytes)

-- a number stands in a row
pub record Stands (xs : List ℤ) (v : ℤ) : Type 0 where
  pub place : ℕ
  pub inside : place < length xs
  pub is : get_or xs place (pos 0) ≡ v

-- the least of a row is below each of its numbers and is one of them; the greatest so above
pub record Bounds (xs : List ℤ) : Type 0 where
  pub low : (i : ℕ) → i < length xs → le_z (least xs) (get_or xs i (pos 0)) ≡ true
  pub high : (i : ℕ) → i < length xs → le_z (get_or xs i (pos 0)) (greatest xs) ≡ true
  pub low_stands : 0 < length xs → Stands xs (least xs)
  pub high_stands : 0 < length xs → Stands xs (greatest xs)

abbrev pub BoxBounds : Type 0
BoxBounds = (xs : List ℤ) → Bounds xs

-- what was read is written again, if there is room, and then says the same
pub record Again (g : Glyph) : Type 0 where
  pub writes : (room : ℕ) → written_of room g ≡ fitting room (bytes_of g)
  pub says : described (bytes_of g) ≡ done g

abbrev pub ReadWrittenAgain : Type 0
ReadWrittenAgain = (bytes : List ℕ) (g : Glyph) → all_bytes bytes ≡ true → described bytes ≡ done g → Again g
