-- What is written, as a text: of a number, a point, a contour, the file. Definitions and statements; proofs are in proofs/Texts.antt.
use Rattle.std.specs.Prelude.{ℕ, zero, suc, ◌+◌, ◌-◌, ◌≤◌, ◌<◌, Bool, true, false, List, [], ◌∷◌, ◌++◌, ◌≡◌, eqb, ℤ, pos, length, take, drop, get_or}
use Rattle.std.specs.Int.Signed.{mag}
use Rattle.lines.specs.Text.{signed_of}
use Rattle.gliftext.specs.Pick.{pick, most}
use Rattle.glifwrite.specs.Puts.{Putting, put_byte, no_digits, put_number, opening, between, closing, put_point}
use Rattle.glifwrite.specs.Contours.{is_on, end_at, start_of, put_to}
use Rattle.glifwrite.specs.Writes.{GivenRows, given}
use Rattle.glifwrite.specs.Outside.{Part, own, contour, parts_of}

-- the bytes of a text, one after the other
unfoldable pub put_text : List ℕ → Putting → Putting
put_text [] q = q
put_text (b ∷ bs) q = put_text bs (put_byte b q)

-- ` type="line"/>`, ` type="qcurve"/>`, `/>`: on-curve after an on-curve point, on-curve after an off-curve one, off-curve
unfoldable pub kind_text : Bool → Bool → List ℕ
kind_text true true = 32 ∷ 116 ∷ 121 ∷ 112 ∷ 101 ∷ 61 ∷ 34 ∷ 108 ∷ 105 ∷ 110 ∷ 101 ∷ 34 ∷ 47 ∷ 62 ∷ []
kind_text true false = 32 ∷ 116 ∷ 121 ∷ 112 ∷ 101 ∷ 61 ∷ 34 ∷ 113 ∷ 99 ∷ 117 ∷ 114 ∷ 118 ∷ 101 ∷ 34 ∷ 47 ∷ 62 ∷ []
kind_text false before = 47 ∷ 62 ∷ []

-- `<point x="X" y="Y" type="line"/>`
unfoldable pub point_text : ℤ → ℤ → Bool → Bool → List ℕ
point_text x y on before = opening ++ (signed_of x ++ (between ++ (signed_of y ++ (closing ++ kind_text on before))))

-- the first k points of a contour from one place to another; before its first point stands its last
unfoldable pub contour_text : List ℤ → List ℤ → List ℕ → ℕ → ℕ → ℕ → List ℕ
contour_text xs ys fs from to zero = []
contour_text xs ys fs from to (suc k) =
    contour_text xs ys fs from to k
    ++ point_text (get_or xs (from + k) (pos 0)) (get_or ys (from + k) (pos 0)) (is_on fs (from + k))
    (is_on fs (pick (eqb (from + k) from) (to - 1) (from + k - 1)))

abbrev pub piece_text : List ℕ → GivenRows → Part → List ℕ
piece_text bs g (own from end) = take (end - from) (drop from bs)
piece_text bs (given ends xs ys fs) (contour k) = contour_text xs ys fs (start_of ends k) (end_at ends k) (end_at ends k - start_of ends k)

unfoldable pub pieces_text : List ℕ → GivenRows → List Part → List ℕ
pieces_text bs g [] = []
pieces_text bs g (p ∷ ps) = piece_text bs g p ++ pieces_text bs g ps

-- the file with the points of the rows
unfoldable pub written : List ℕ → GivenRows → List ℕ
written bs g = pieces_text bs g (parts_of bs (length bs))

-- ---- numbers of 16 bits

-- the eight places for a number's text suffice for each
abbrev pub NumbersFit : Type 0
NumbersFit = (v : ℤ) → mag v < 32768 → length (signed_of v) ≤ length no_digits

-- and so a number is its whole text
abbrev pub NumbersWhole : Type 0
NumbersWhole = (v : ℤ) (q : Putting) → mag v < 32768 → put_number v q ≡ put_text (signed_of v) q

-- coordinates of 16 bits
abbrev pub Small : List ℤ → Type 0
Small xs = (i : ℕ) → mag (get_or xs i (pos 0)) < 32768

-- a point and a contour too are their texts
abbrev pub PointsWhole : Type 0
PointsWhole = (x y : ℤ) (on before : Bool) (q : Putting) → mag x < 32768 → mag y < 32768 → put_point x y on before q ≡ put_text (point_text x y on before) q

abbrev pub ContoursWhole : Type 0
ContoursWhole =
    (xs ys : List ℤ) (fs : List ℕ) (from to k : ℕ) (q : Putting) → Small xs → Small ys → from + k ≤ most →
    put_to xs ys fs from to k q ≡ put_text (contour_text xs ys fs from to k) q
