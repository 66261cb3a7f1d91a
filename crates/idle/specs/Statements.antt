-- What is asked to be proved of idle controls, as types; a theorem of proofs/Theorems, proofs/Drawn or proofs/Back is of each. Statements only.
use Rattle.std.specs.Prelude.{ℕ, ◌+◌, ◌*◌, ◌≤◌, ◌<◌, true, false, List, [], ◌∷◌, map, ◌≡◌, ℤ, length, Ok}
use Rattle.refusals.specs.Refusals.{judged}
use Rattle.clean.specs.Clean.{on_place, cleaned, up_from}
use Rattle.clean.specs.Pass.{after_of}
use Rattle.clean.specs.PutBack.{Point}
use Rattle.clean.specs.Statements.{unlisted, coordinates_left, flags_left, uploaded, spot_point}
use Rattle.idle.specs.Idle.{before_of, places_of, idle_of}
use Rattle.idle.specs.PutBack.{spots_of}
use Rattle.idle.specs.Outline.{Vertex, on, off, vertices_of, outline_of, straightened, Passes, Between}

-- an upload that 1 to 5 let through, the numbers of its points that are kept, and the list
pub record DroppedTo (xs ys : List ℤ) (fs kept : List ℕ) (drops : List (List ℕ)) : Type 0 where
  pub fine : judged xs ys fs ≡ Ok tt
  pub is : idle_of xs ys fs ≡ cleaned kept drops

-- ---- the neighbours of an off-curve point, going round, are on-curve

pub record Neighbours (fs : List ℕ) (p : ℕ) : Type 0 where
  pub before : on_place fs (before_of p (length fs)) ≡ true
  pub after : on_place fs (after_of p (length fs)) ≡ true

abbrev pub NeighboursOn : Type 0
NeighboursOn = (xs ys : List ℤ) (fs : List ℕ) (p : ℕ) → judged xs ys fs ≡ Ok tt → p < length fs → on_place fs p ≡ false → Neighbours fs p

-- ---- every point not listed is kept in order; place 0 is kept

pub record InOrder (fs kept : List ℕ) (drops : List (List ℕ)) : Type 0 where
  pub unlisted_stay : kept ≡ unlisted drops (places_of fs)
  pub each : length kept + length drops ≡ length fs

abbrev pub KeptInOrder : Type 0
KeptInOrder = (xs ys : List ℤ) (fs kept : List ℕ) (drops : List (List ℕ)) → DroppedTo xs ys fs kept drops → InOrder fs kept drops

-- ---- what is left is refused by none of 1 to 5, and sifted again nothing more goes

pub record Left (xs ys : List ℤ) (fs kept : List ℕ) : Type 0 where
  pub fine : judged (coordinates_left xs kept) (coordinates_left ys kept) (flags_left fs kept) ≡ Ok tt
  pub twice : idle_of (coordinates_left xs kept) (coordinates_left ys kept) (flags_left fs kept) ≡ cleaned (up_from 0 (length kept)) []

abbrev pub TwiceDropsNothing : Type 0
TwiceDropsNothing = (xs ys : List ℤ) (fs kept : List ℕ) (drops : List (List ℕ)) → DroppedTo xs ys fs kept drops → Left xs ys fs kept

-- ---- the list put back gives the upload's points

-- the points that the putting-back entry writes of three rows and a list
abbrev pub written_back : List ℤ → List ℤ → List ℕ → List (List ℕ) → List Point
written_back xs ys fs list = map (spot_point xs ys fs) (spots_of (length fs) list (length fs + length list))

abbrev pub ListPutBack : Type 0
ListPutBack =
    (xs ys : List ℤ) (fs kept : List ℕ) (drops : List (List ℕ)) → DroppedTo xs ys fs kept drops →
    written_back (coordinates_left xs kept) (coordinates_left ys kept) (flags_left fs kept) drops ≡ uploaded xs ys fs

-- ---- the outline is the same set of places

abbrev pub on_if : Vertex → List Vertex → List Vertex
on_if (on p) rest = on p ∷ rest
on_if (off p) rest = rest

-- the on-curve points, in order
unfoldable pub on_curve : List Vertex → List Vertex
on_curve [] = []
on_curve (v ∷ rest) = on_if v (on_curve rest)

-- piece by piece what is left is the upload, each quad whose control stands on an end of it as the line between its ends
pub record SameOutline (xs ys : List ℤ) (fs kept : List ℕ) : Type 0 where
  pub pieces : outline_of (coordinates_left xs kept) (coordinates_left ys kept) (flags_left fs kept) ≡ map straightened (outline_of xs ys fs)
  pub on_curve_lem : on_curve (vertices_of (coordinates_left xs kept) (coordinates_left ys kept) (flags_left fs kept)) ≡ on_curve (vertices_of xs ys fs)

abbrev pub OutlineKept : Type 0
OutlineKept = (xs ys : List ℤ) (fs kept : List ℕ) (drops : List (List ℕ)) → DroppedTo xs ys fs kept drops → SameOutline xs ys fs kept

-- such a quad passes places of the line alone, x and y at one parameter of it: with t = k / (m + k), t * t where its control stands on a, and
-- 1 - (1 - t) * (1 - t) where it stands on b
pub record OnTheLine (a b : ℤ) (m k : ℕ) : Type 0 where
  pub by_start : Passes a a b m k (m * m + 2 * (m * k)) (k * k)
  pub by_end : Passes a b b m k (m * m) (2 * (m * k) + k * k)

abbrev pub QuadIsLine : Type 0
QuadIsLine = (a b : ℤ) (m k : ℕ) → OnTheLine a b m k

-- and it leaves none of them out: however fine the steps of t, each place of the line, counted from the end where the control stands, lies
-- between the quad's places at two steps that follow each other
abbrev pub NoneLeftOut : Type 0
NoneLeftOut = (s whole n : ℕ) → s ≤ whole → 0 < n → Between s whole n
