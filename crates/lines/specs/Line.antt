-- What a line says: whole numbers with one blank between them, `x y f x y f ..`, three to a point. Definitions only.
use Rattle.std.specs.Prelude.{ℕ, ◌+◌, ◌-◌, ◌*◌, Bool, true, false, ◌&&◌, List, [], ◌∷◌, map, ◌≡◌, eqb, leb, ℤ, pos, neg_ℤ, nat_abs, length, Option, Some, None, option_map}
use Rattle.std.specs.Int.Signed.{le_z}
use Rattle.std.proofs.lemmas.List.Edits.{sets}
pub use Rattle.lines.specs.declared.line.Point.{Point}

-- ---- parts

-- a byte in front of the first part; a stop, in front of a part of its own
abbrev pub before : Bool → ℕ → List (List ℕ) → List (List ℕ)
before true b parts = [] ∷ parts
before false b [] = []
before false b (p ∷ parts) = (b ∷ p) ∷ parts

-- the parts between one byte `stop` and the next. None is left out, not the empty ones, so that there is always one
unfoldable pub split : ℕ → List ℕ → List (List ℕ)
split stop [] = [] ∷ []
split stop (b ∷ bs) = before (eqb b stop) b (split stop bs)

-- the bytes before the first `stop`
abbrev pub until : Bool → ℕ → List ℕ → List ℕ
until true b bs = []
until false b bs = b ∷ bs

unfoldable pub up_to : ℕ → List ℕ → List ℕ
up_to stop [] = []
up_to stop (b ∷ bs) = until (eqb b stop) b (up_to stop bs)

-- ---- whole numbers

abbrev pub provided : {A : Type 0} → Bool → Option A → Option A
provided true o = o
provided false o = None

-- `0` to `9`
abbrev pub is_digit : ℕ → Bool
is_digit b = leb 48 b && leb b 57

-- the number that decimal digits say, after those that say v
unfoldable pub digits_on : ℕ → List ℕ → Option ℕ
digits_on v [] = Some v
digits_on v (b ∷ bs) = provided (is_digit b) (digits_on (v * 10 + (b - 48)) bs)

-- one digit or more; zeros in front count for nothing
unfoldable pub natural_of : List ℕ → Option ℕ
natural_of [] = None
natural_of (b ∷ bs) = digits_on 0 (b ∷ bs)

abbrev pub negative : ℕ → ℤ
negative n = neg_ℤ (pos n)

-- a `-` before the digits or nothing, so that -0 is 0
abbrev pub signed : Bool → ℕ → List ℕ → Option ℤ
signed true b bs = option_map negative (natural_of bs)
signed false b bs = option_map pos (natural_of (b ∷ bs))

unfoldable pub number_of : List ℕ → Option ℤ
number_of [] = None
number_of (b ∷ bs) = signed (eqb b 45) b bs

-- ---- points

abbrev pub only : (ℤ → Bool) → Option ℤ → Option ℤ
only test (Some z) = provided (test z) (Some z)
only test None = None

abbrev pub within : ℤ → ℤ → ℤ → Bool
within low high z = le_z low z && le_z z high

-- 16 bits: -32768 to 32767
abbrev pub is_coordinate : ℤ → Bool
is_coordinate = within (negative 32768) (pos 32767)

abbrev pub is_flag : ℤ → Bool
is_flag = within (pos 0) (pos 255)

unfoldable pub coordinate_of : List ℕ → Option ℤ
coordinate_of word = only is_coordinate (number_of word)

unfoldable pub flag_of : List ℕ → Option ℕ
flag_of word = option_map nat_abs (only is_flag (number_of word))

abbrev pub point : Option ℤ → Option ℤ → Option ℕ → Option Point
point (Some a) (Some b) (Some c) = Some (record { x = a; y = b; flag = c })
point (Some a) (Some b) None = None
point (Some a) None c = None
point None b c = None

abbrev pub in_front : Option Point → Option (List Point) → Option (List Point)
in_front (Some p) (Some ps) = Some (p ∷ ps)
in_front (Some p) None = None
in_front None ps = None

-- three words to a point
unfoldable pub points_of : List (List ℕ) → Option (List Point)
points_of [] = Some []
points_of (x ∷ []) = None
points_of (x ∷ y ∷ []) = None
points_of (x ∷ y ∷ f ∷ words) = in_front (point (coordinate_of x) (coordinate_of y) (flag_of f)) (points_of words)

-- ---- lines

-- an empty line has no word; in any other there is a word before, between and after its blanks
abbrev pub contour_of : List ℕ → Option (List Point)
contour_of [] = Some []
contour_of (b ∷ bs) = points_of (split 32 (b ∷ bs))

-- the points of a line, none where it is malformed; a line of more than 65,536 bytes is
unfoldable pub parsed_of : List ℕ → Option (List Point)
parsed_of line = provided (leb (length line) 65536) (contour_of line)

-- a number of points and the rows that hold them, or a line that was malformed
pub data Filled : Type 0 where
  filled : ℕ → List ℤ → List ℤ → List ℕ → Filled
  spoilt : Filled

-- points stored in the rows from place n on. A store past a row's end changes nothing (`sets` of lib.Seq)
unfoldable pub laid : Option (List Point) → ℕ → List ℤ → List ℤ → List ℕ → Filled
laid (Some ps) n xs ys fs =
    filled (n + length ps)
    (sets xs n (map (λ (p : Point). p.x) ps))
    (sets ys n (map (λ (p : Point). p.y) ps))
    (sets fs n (map (λ (p : Point). p.flag) ps))
laid None n xs ys fs = spoilt

-- the answer and the rows are those; after a malformed line the rows may hold anything
abbrev pub Leaves : Filled → Option ℕ → List ℤ → List ℤ → List ℕ → Type 0
Leaves (filled n a b c) r xs ys fs = (r ≡ Some n) × (xs ≡ a) × (ys ≡ b) × (fs ≡ c)
Leaves spoilt r xs ys fs = r ≡ None
