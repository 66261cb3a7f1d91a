-- The outline of a contour, by OpenType: its pieces in order, and the places of a piece. Definitions only.
use Rattle.std.specs.Prelude.{ℕ, ◌+◌, ◌*◌, ◌≤◌, ◌<◌, Bool, true, false, ◌&&◌, ◌||◌, List, [], ◌∷◌, map, ◌≡◌, ℤ, pos, ◌+ℤ◌, ◌*ℤ◌, length, get_or}
use Rattle.contour.specs.Implied.{same}
use Rattle.clean.specs.Clean.{on_place, up_from}

-- ---- pieces

pub data Place : Type 0 where
  place : ℤ → ℤ → Place

pub data Piece : Type 0 where
  line : Place → Place → Piece
  quad : Place → Place → Place → Piece

pub data Vertex : Type 0 where
  on : Place → Vertex
  off : Place → Vertex

-- where the pen stands: on the curve; or past a control that waits for the end of its quad
pub data Pen : Type 0 where
  from : Place → Pen
  bent : Place → Place → Pen

-- an on-curve point after another ends a line, after a control it ends a quad; the last piece leads to the start z
unfoldable pub traced : Place → Pen → List Vertex → List Piece
traced z (from a) [] = line a z ∷ []
traced z (from a) (on b ∷ rest) = line a b ∷ traced z (from b) rest
traced z (from a) (off c ∷ rest) = traced z (bent a c) rest
traced z (bent a c) [] = quad a c z ∷ []
traced z (bent a c) (on b ∷ rest) = quad a c b ∷ traced z (from b) rest
-- 5 refuses two neighbours that are off-curve
traced z (bent a c) (off d ∷ rest) = []

-- 4 refuses a first point that is off-curve
abbrev pub drawn : List Vertex → List Piece
drawn [] = []
drawn (on a ∷ rest) = traced a (from a) rest
drawn (off a ∷ rest) = []

abbrev pub vertex_if : Bool → Place → Vertex
vertex_if true p = on p
vertex_if false p = off p

module _ (xs ys : List ℤ) (fs : List ℕ) where
  abbrev pub place_at : ℕ → Place
  place_at k = place (get_or xs k (pos 0)) (get_or ys k (pos 0))

  abbrev pub vertex_at : ℕ → Vertex
  vertex_at k = vertex_if (on_place fs k) (place_at k)

  abbrev pub vertices_of : List Vertex
  vertices_of = map vertex_at (up_from 0 (length fs))

  abbrev pub outline_of : List Piece
  outline_of = drawn vertices_of

-- ---- a quad whose control stands on one of its ends, as a line

abbrev pub is_at : Place → Place → Bool
is_at (place x y) (place u v) = same x u && same y v

abbrev pub straight_if : Bool → Place → Place → Place → Piece
straight_if true a c b = line a b
straight_if false a c b = quad a c b

abbrev pub straightened : Piece → Piece
straightened (line a b) = line a b
straightened (quad a c b) = straight_if (is_at c a || is_at c b) a c b

-- ---- the places of a piece, one coordinate. A parameter is k / (m + k), for any m and k that are not both 0.

abbrev pub times : ℕ → ℤ → ℤ
times n a = pos n *ℤ a

-- of a line, m + k times
abbrev pub line_at : ℕ → ℕ → ℤ → ℤ → ℤ
line_at m k a b = times m a +ℤ times k b

-- of a quad, (m + k) * (m + k) times
abbrev pub quad_at : ℕ → ℕ → ℤ → ℤ → ℤ → ℤ
quad_at m k a c b = times (m * m) a +ℤ (times (2 * (m * k)) c +ℤ times (k * k) b)

-- the place of the quad a, c, b at k / (m + k) is that of the line a, b at v / (u + v)
pub record Passes (a c b : ℤ) (m k u v : ℕ) : Type 0 where
  pub whole : u + v ≡ (m + k) * (m + k)
  pub at : quad_at m k a c b ≡ line_at u v a b

-- s of the whole lies between the squares of two parameters that follow each other in steps of 1 / n
pub record Between (s whole n : ℕ) : Type 0 where
  pub k : ℕ
  pub inside : k < n
  pub low : k * k * whole ≤ s * (n * n)
  pub high : s * (n * n) ≤ (k + 1) * (k + 1) * whole
