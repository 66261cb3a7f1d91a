-- A point takes six bytes of a line at least: each of its three words has a byte and a blank after it, but for the last. Assumes nothing.
use Rattle.std.proofs.Common.{ℕ, suc, ◌+◌, ◌*◌, ◌≤◌, Bool, true, false, List, [], ◌∷◌, Option, Some, None, ◌≡◌, refl, arith, eqb, leb, ℤ, length}
use Rattle.lines.specs.Line.{before, split, provided, number_of, coordinate_of, flag_of, point, in_front, points_of, contour_of, parsed_of}
use Rattle.lines.specs.declared.line.Point.{Point}

-- the bytes of words, with a blank after each
bytes : List (List ℕ) → ℕ
bytes [] = 0
bytes (w ∷ ws) = suc (length w) + bytes ws

before_bytes : (stop : Bool) (b : ℕ) (words : List (List ℕ)) {n : ℕ} → bytes words ≡ suc n → bytes (before stop b words) ≡ suc (suc n)
unfolding bytes
before_bytes true b words e = omega arith
before_bytes false b [] e = absurd (omega arith)
before_bytes false b (w ∷ ws) e = omega arith

split_bytes : (line : List ℕ) → bytes (split 32 line) ≡ suc (length line)
unfolding split bytes
split_bytes [] = refl
split_bytes (b ∷ bs) = before_bytes (eqb b 32) b (split 32 bs) (split_bytes bs)

-- one, where there is any
abbrev held : {A : Type 0} → Option A → ℕ
held (Some a) = 1
held None = 0

held_one : {A : Type 0} (o : Option A) → held o ≤ 1
held_one (Some a) = omega arith
held_one None = omega arith

-- an empty word is no number
coordinate_bytes : (w : List ℕ) → 2 * held (coordinate_of w) ≤ suc (length w)
unfolding coordinate_of number_of
coordinate_bytes [] = omega arith
coordinate_bytes (b ∷ bs) = omega (arith, held_one (coordinate_of (b ∷ bs)))

flag_bytes : (w : List ℕ) → 2 * held (flag_of w) ≤ suc (length w)
unfolding flag_of number_of
flag_bytes [] = omega arith
flag_bytes (b ∷ bs) = omega (arith, held_one (flag_of (b ∷ bs)))

-- how many points
abbrev pub many : Option (List Point) → ℕ
many (Some ps) = length ps
many None = 0

front_bytes : (a b : Option ℤ) (c : Option ℕ) (o : Option (List Point)) → 6 * many (in_front (point a b c) o) ≤ 2 * held a + 2 * held b + 2 * held c + 6 * many o
front_bytes (Some a) (Some b) (Some c) (Some ps) = omega arith
front_bytes (Some a) (Some b) (Some c) None = omega arith
front_bytes (Some a) (Some b) None o = omega arith
front_bytes (Some a) None c o = omega arith
front_bytes None b c o = omega arith

points_bytes : (words : List (List ℕ)) → 6 * many (points_of words) ≤ bytes words
unfolding points_of bytes
points_bytes [] = omega arith
points_bytes (x ∷ []) = omega arith
points_bytes (x ∷ y ∷ []) = omega arith
points_bytes (x ∷ y ∷ f ∷ words) =
    omega (arith, front_bytes (coordinate_of x) (coordinate_of y) (flag_of f) (points_of words), coordinate_bytes x, coordinate_bytes y, flag_bytes f, points_bytes words)

contour_bytes : (line : List ℕ) → 6 * many (contour_of line) ≤ length line + 1
contour_bytes [] = omega arith
contour_bytes (b ∷ bs) = omega (arith, points_bytes (split 32 (b ∷ bs)), split_bytes (b ∷ bs))

provided_many : (b : Bool) (o : Option (List Point)) → many (provided b o) ≤ many o
provided_many true o = omega arith
provided_many false o = omega arith

pub line_bytes : (line : List ℕ) → 6 * many (parsed_of line) ≤ length line + 1
unfolding parsed_of
line_bytes line = omega (arith, provided_many (leb (length line) 65536) (contour_of line), contour_bytes line)
