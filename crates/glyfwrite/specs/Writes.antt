-- What judging rows says, the texts of the parts, and what writing leaves in the row of bytes. Definitions only.
use Rattle.std.specs.Prelude.{ℕ, ◌≤◌, List, ◌++◌, map, ◌≡◌, ℤ, pos, length, Result, Ok, Err}
use Rattle.refusals.specs.declared.refusal.Refusal.{Refusal}
use Rattle.glyf.specs.Layout.{Glyph, Outcome, done, refused, left_by, laid, count_of, trimmed, fitting, bytes_of, written_of, word_bytes, signed_bytes, box_of, joined}
use Rattle.glyf.specs.Layout.{packed_flags, coded_flags, steps, code_of}

-- ---- the texts of the parts

abbrev pub head_text : List ℕ → List ℤ → List ℤ → List ℕ
head_text es xs ys = word_bytes (length es) ++ (joined (map signed_bytes (box_of xs ys)) ++ joined (map word_bytes es))

abbrev pub code_text : List ℕ → List ℕ
code_text is = word_bytes (length is) ++ is

abbrev pub points_text : List ℤ → List ℤ → List ℕ → List ℕ
points_text xs ys fs =
    packed_flags (coded_flags fs (steps (pos 0) xs) (steps (pos 0) ys)) ++ (joined (map code_of (steps (pos 0) xs)) ++ joined (map code_of (steps (pos 0) ys)))

-- rows as long as there are points, and counts that fit their fields
pub record Counted (es : List ℕ) (xs ys : List ℤ) (fs is : List ℕ) : Type 0 where
  pub few_ends : length es ≤ 32767
  pub few_bytes : length is ≤ 65535
  pub few_points : length fs ≤ 65536
  pub as_xs : length xs ≡ length fs
  pub as_ys : length ys ≡ length fs

-- ---- judging

-- nothing is refused but for room, and n points are to be written
pub record Fine (g : Glyph) (n : ℕ) : Type 0 where
  pub says : (room : ℕ) → written_of room g ≡ fitting room (bytes_of (trimmed g))
  pub count : n ≡ count_of g.ends
  pub few : n ≤ 65536
  pub in_xs : n ≤ length g.xs
  pub in_ys : n ≤ length g.ys
  pub in_flags : n ≤ length g.flags
  pub few_ends : length g.ends ≤ 32767
  pub few_bytes : length g.instructions ≤ 65535

abbrev pub Judges : Glyph → Result ℕ Refusal → Type 0
Judges g (Ok n) = Fine g n
Judges g (Err k) = (room : ℕ) → written_of room g ≡ refused k

-- ---- the answer and the row of bytes

abbrev pub answer_of : Outcome (List ℕ) → Result ℕ Refusal
answer_of (done bytes) = Ok (length bytes)
answer_of (refused k) = Err k

-- the bytes at the front of the row; where refused it is not changed
pub record Writes (o : Outcome (List ℕ)) (out out' : List ℕ) (r : Result ℕ Refusal) : Type 0 where
  pub answer : r ≡ answer_of o
  pub left : out' ≡ left_by laid o out
