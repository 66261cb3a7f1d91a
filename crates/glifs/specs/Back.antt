-- What is written is read back: a coordinate, a type, all rows that 1 to 5 let through, and all rows in which each contour has an on-curve point. The
-- statements; proofs are in proofs/Back.antt, proofs/RoundTrip.antt and proofs/ReadExplicit.antt. Definitions only.
use Rattle.std.specs.Prelude.{ℕ, ◌≤◌, ◌<◌, true, false, List, [], ◌∷◌, map, ◌≡◌, ℤ, length, take, get_or, Result, Ok, Err, is_ok}
use Rattle.std.specs.Int.Signed.{mag}
use Rattle.refusals.specs.Refusals.{judged}
use Rattle.refusals.specs.declared.refusal.Refusal.{Refusal}
use Rattle.refusals.specs.declared.refusal.Refusal.TheVariants.{Malformed, CubicOrOpen, NoOnCurve}
use Rattle.lines.specs.Text as Text
use Rattle.gliftext.specs.Pick.{most}
use Rattle.gliftext.specs.Words.{pushed, no_number, fed_number}
use Rattle.gliftext.specs.Text.{line, qcurve}
use Rattle.gliftext.specs.declared.word.Number.{Number}
use Rattle.glif.specs.Outline.{is_number, is_far, offset_of}
use Rattle.contour.specs.Points.{Points}
use Rattle.explicit.specs.Explicit.{explicit_of}
use Rattle.glyf.specs.Layout.{Outcome, done, refused}
use Rattle.glyphs.specs.Glyphs.{stretch, contours_from, together}
use Rattle.glifread.specs.Enter.{signed_of}
use Rattle.glifread.specs.Reads.{rooms, scratch_room}
use Rattle.glifread.specs.Reads as Reads
use Rattle.glifwrite.specs.Contours.{is_on, end_at, start_of}
use Rattle.glifwrite.specs.Writes.{GivenRows, given, answer_of, left_in}
use Rattle.glifwrite.specs.Texts.{Small}
use Rattle.settings.specs.declared.Settings.{Settings}
use Rattle.glifs.specs.Glifs.{Rooms, read_of, given_of, crunch_glif_of}
use Rattle.glifs.specs.Stands.{InRows}

-- the bytes of a value, one after the other: as a number, and as a word
unfoldable pub number_in : List ℕ → Number → Number
number_in [] n = n
number_in (b ∷ bs) n = number_in bs (fed_number n b)

unfoldable pub word_in : List ℕ → ℕ → ℕ
word_in [] w = w
word_in (b ∷ bs) w = word_in bs (pushed w b)

-- a number of the file that is whole and inside 16 bits, and enters the rows as v
pub record Enters (v : ℤ) (n : Number) : Type 0 where
  pub number : is_number n ≡ true
  pub whole : n.part ≡ false
  pub near : is_far n ≡ false
  pub same : signed_of (offset_of n) ≡ v

-- a coordinate of 16 bits, from its text as it is written
abbrev pub CoordinateReadsBack : Type 0
CoordinateReadsBack = (v : ℤ) → mag v < 32768 → Enters v (number_in (Text.signed_of v) no_number)

-- `line` and `qcurve`, as they stand in the text of a point
abbrev pub TypesReadBack : Type 0
TypesReadBack = (word_in (108 ∷ 105 ∷ 110 ∷ 101 ∷ []) 0 ≡ line) × (word_in (113 ∷ 99 ∷ 117 ∷ 114 ∷ 118 ∷ 101 ∷ []) 0 ≡ qcurve)

-- ---- rows

-- refusals 1 to 5 let each contour of the rows through, flags are 0 or 1, and coordinates and ends have 16 bits
pub record LetThrough (ends : List ℕ) (xs ys : List ℤ) (fs : List ℕ) : Type 0 where
  pub fine : (k : ℕ) → k < length ends →
      judged (stretch (start_of ends k) (end_at ends k) xs) (stretch (start_of ends k) (end_at ends k) ys) (stretch (start_of ends k) (end_at ends k) fs) ≡ Ok tt
  pub bits : (i : ℕ) → get_or fs i 0 < 2
  pub small_x : Small xs
  pub small_y : Small ys
  pub wide : (k : ℕ) → get_or ends k 0 < 65536

-- so many contours and points have places in rows of these lengths, and the points in the scratch row; 64 bits can tell the lengths
pub record Suffice (ends xs ys flags marks contours count : ℕ) : Type 0 where
  pub in_rows : InRows ends xs ys flags contours count
  pub in_marks : count ≤ marks
  pub few_x : xs ≤ most
  pub few_y : ys ≤ most
  pub few_flags : flags ≤ most
  pub few_marks : marks ≤ most

abbrev pub suffice : Reads.Rooms → ℕ → ℕ → Type 0
suffice (rooms ends xs ys flags marks) contours count = Suffice ends xs ys flags marks contours count

-- how many bytes an answer says
abbrev pub bytes_in : Result ℕ Refusal → ℕ
bytes_in (Ok n) = n
bytes_in (Err k) = 0

-- the file at the front of the row that `write_glif` left
abbrev pub left_at_front : List ℕ → GivenRows → List ℕ → List ℕ
left_at_front bytes g out = take (bytes_in (answer_of bytes g (length out))) (left_in bytes g (length out) out)

-- rows that 1 to 5 let through, flags 0 or 1, read back the same once written: where `write_glif` refuses nothing, reading what it left gives the rows
abbrev pub RowsReadBack : Type 0
RowsReadBack =
    (bytes ends : List ℕ) (xs ys : List ℤ) (fs out : List ℕ) (n : Reads.Rooms) → length bytes ≤ most → length out < most →
    is_ok (answer_of bytes (given ends xs ys fs) (length out)) ≡ true → LetThrough ends xs ys fs → suffice n (length ends) (length xs) →
    read_of n (left_at_front bytes (given ends xs ys fs) out) ≡ done (given ends xs ys fs)

-- ---- rows of any contours that have an on-curve point

-- a point of the contour from one place up to another is on-curve
pub record OnCurve (fs : List ℕ) (from to : ℕ) : Type 0 where
  pub at : ℕ
  pub low : from ≤ at
  pub high : at < to
  pub on : is_on fs at ≡ true

-- so it is of each contour of the rows, and coordinates and ends have 16 bits
pub record OnEach (ends : List ℕ) (xs ys : List ℤ) (fs : List ℕ) : Type 0 where
  pub some : (k : ℕ) → k < length ends → OnCurve fs (start_of ends k) (end_at ends k)
  pub small_x : Small xs
  pub small_y : Small ys
  pub wide : (k : ℕ) → get_or ends k 0 < 65536

-- each contour from its first on-curve point on, its implied points written out, as `explicit` has it; and how many points that are
abbrev pub explicit_each : GivenRows → List Points
explicit_each (given ends xs ys fs) = map explicit_of (contours_from 0 ends xs ys fs)

abbrev pub explicit_count : GivenRows → ℕ
explicit_count g = length (together (explicit_each g))

-- so many contours and points have places in rows of these lengths, and as many points as the file has in the scratch row; 64 bits can tell the lengths
pub record SufficeFor (ends xs ys flags marks contours count full : ℕ) : Type 0 where
  pub in_rows : InRows ends xs ys flags contours full
  pub in_marks : count ≤ marks
  pub few_x : xs ≤ most
  pub few_y : ys ≤ most
  pub few_flags : flags ≤ most
  pub few_marks : marks ≤ most

abbrev pub suffice_for : Reads.Rooms → ℕ → ℕ → ℕ → Type 0
suffice_for (rooms ends xs ys flags marks) contours count full = SufficeFor ends xs ys flags marks contours count full

-- Rows in which each contour has an on-curve point: where `write_glif` refuses nothing, and the ends can tell the points, reading what it left gives the rows with
-- their implied points written out.
abbrev pub RowsReadExplicit : Type 0
RowsReadExplicit =
    (bytes ends : List ℕ) (xs ys : List ℤ) (fs out : List ℕ) (n : Reads.Rooms) → length bytes ≤ most → length out < most →
    is_ok (answer_of bytes (given ends xs ys fs) (length out)) ≡ true → OnEach ends xs ys fs → explicit_count (given ends xs ys fs) ≤ 65536 →
    suffice_for n (length ends) (length xs) (explicit_count (given ends xs ys fs)) →
    read_of n (left_at_front bytes (given ends xs ys fs) out) ≡ done (given_of (explicit_each (given ends xs ys fs)))

-- whatever rows it is read into, it is refused by none of 19, 20 and 21
pub record NoFault (o : Outcome GivenRows) : Type 0 where
  pub not_19 : o ≡ refused Malformed → ⊥
  pub not_20 : o ≡ refused CubicOrOpen → ⊥
  pub not_21 : o ≡ refused NoOnCurve → ⊥

abbrev pub RowsReadWithoutFault : Type 0
RowsReadWithoutFault =
    (bytes ends : List ℕ) (xs ys : List ℤ) (fs out : List ℕ) (n : Reads.Rooms) → length bytes ≤ most → length out < most →
    is_ok (answer_of bytes (given ends xs ys fs) (length out)) ≡ true → OnEach ends xs ys fs → scratch_room n ≤ most →
    NoFault (read_of n (left_at_front bytes (given ends xs ys fs) out))

-- ---- what `crunch_glif` wrote

abbrev pub suffice_again : Reads.Rooms → GivenRows → Type 0
suffice_again n (given ends xs ys fs) = suffice_for n (length ends) (length xs) (explicit_count (given ends xs ys fs))

-- of the rows g that `crunch_glif` wrote, read again into rows of these lengths: none of 19, 20 and 21, and just those rows
pub record ReadAgain (bytes : List ℕ) (g : GivenRows) (out : List ℕ) (n : Reads.Rooms) : Type 0 where
  pub no_fault : NoFault (read_of n (left_at_front bytes g out))
  pub rows : explicit_count g ≤ 65536 → suffice_again n g → read_of n (left_at_front bytes g out) ≡ done (given_of (explicit_each g))

abbrev pub CrunchedReadAgain : Type 0
CrunchedReadAgain =
    (r : Rooms) (settings : Settings) (bytes : List ℕ) (g : GivenRows) (out : List ℕ) (n : Reads.Rooms) → length bytes ≤ most → length out < most →
    crunch_glif_of r settings bytes ≡ done g → is_ok (answer_of bytes g (length out)) ≡ true → scratch_room n ≤ most → ReadAgain bytes g out n
