-- What stays of a row when implied points are dropped, for a reader: its start, its outline, whole units. Each statement is a type here, and a theorem of
-- proofs/Kept is of that type: `start_stays`, `starts_on_curve`, `crates_rows`, `whole_outline_kept`, `no_half_point`, `all_whole`. Definitions and statements only.
use Rattle.std.specs.Prelude.{ℕ, ◌+◌, ◌-◌, ◌%◌, ◌<◌, Bool, true, false, not, ◌&&◌, List, [], ◌∷◌, ◌++◌, map, ◌≡◌, ℤ, pos, ◌+ℤ◌, length, get_or, take, Ok}
use Rattle.refusals.specs.Refusals.{judged}
use Rattle.rows.specs.Sixteen.{SixteenBits}
use Rattle.geometry.specs.declared.Quad.{Quad}
use Rattle.outline.specs.declared.Seg.{Seg}
use Rattle.contour.specs.Points.{Points, flag_if, points_of, pieces_points, start_point, unchanged_in, around}
use Rattle.contour.specs.Implied.{number, off_curve, finished}
use Rattle.contour.specs.Standard.{Midpoint}

-- ---- the start

-- in closed mode the first point of the row is the first that comes out: the first corner's own point, or the upload's first where it is unchanged
pub record StartStays : Type 0 where
  pub row : (ps : Points) → take 1 (finished true ps) ≡ take 1 ps
  pub corner : (s : List ℤ) (ps : Points) → take 1 (finished true (around s ps)) ≡ s ∷ []
  pub unchanged : (xs ys : List ℤ) (fs : List ℕ) → judged xs ys fs ≡ Ok tt → take 1 (finished true (unchanged_in xs ys fs true)) ≡ start_point xs ys ∷ []

-- the first point is on-curve, so there is one; and the last is
abbrev pub StartsOn : Points → Type 0
StartsOn ps = off_curve (get_or ps 0 []) ≡ false

pub record OnBothEnds (ps : Points) : Type 0 where
  pub first : StartsOn ps
  pub last : off_curve (get_or ps (length ps - 1) []) ≡ false

-- What comes out starts on-curve where the row does; in the crate's mode, which reverses it, where the row ends so too.
pub record StartsOnCurve : Type 0 where
  pub closed : (ps : Points) → StartsOn ps → StartsOn (finished true ps)
  pub crates : (ps : Points) → OnBothEnds ps → StartsOn (finished false ps)
  pub unchanged : (xs ys : List ℤ) (fs : List ℕ) → SixteenBits xs → SixteenBits ys → judged xs ys fs ≡ Ok tt → (b : Bool) →
      StartsOn (finished b (unchanged_in xs ys fs b))

-- the rows of the crate's mode do: the start, and after it the points of segments and pieces, each of which ends on-curve
pub record CratesRows : Type 0 where
  pub start : (xs ys : List ℤ) → OnBothEnds (start_point xs ys ∷ [])
  pub segment : (ps : Points) (g : Seg) → OnBothEnds ps → OnBothEnds (ps ++ points_of g)
  pub pieces : (ps : Points) (qs : List Quad) → OnBothEnds ps → OnBothEnds (ps ++ pieces_points qs)

-- ---- the outline, in half units: there every midpoint is whole

-- a point doubled; on-curve 1, off-curve 0
abbrev pub doubled : List ℤ → List ℤ
doubled p = (number p 0 +ℤ number p 0) ∷ (number p 1 +ℤ number p 1) ∷ flag_if (not (off_curve p)) ∷ []

-- the midpoint of two, doubled: the sum
abbrev pub middle_doubled : List ℤ → List ℤ → List ℤ
middle_doubled p q = (number p 0 +ℤ number q 0) ∷ (number p 1 +ℤ number q 1) ∷ pos 1 ∷ []

-- what OpenType has between two points that follow each other: of two off-curve ones the midpoint
abbrev pub only_if : Bool → List ℤ → Points
only_if true m = m ∷ []
only_if false m = []

abbrev pub between : List ℤ → List ℤ → Points
between p q = only_if (off_curve p && off_curve q) (middle_doubled p q)

-- from p by those after it to the end
unfoldable pub traced : List ℤ → List ℤ → Points → Points
traced end p [] = doubled p ∷ between p end
traced end p (q ∷ qs) = doubled p ∷ (between p q ++ traced end q qs)

-- from the first point round to it
unfoldable pub outline_of : Points → Points
outline_of [] = []
outline_of (p ∷ ps) = traced p p ps

-- in closed mode all that is dropped changes no outline, nor where it starts
abbrev pub WholeOutlineKept : Type 0
WholeOutlineKept = (ps : Points) → outline_of (finished true ps) ≡ outline_of ps

-- ---- whole units

-- the midpoint of two points is on whole units: of each coordinate the sum is even
pub record WholeMidpoint (p q : List ℤ) : Type 0 where
  pub half_x : ℤ
  pub half_y : ℤ
  pub x : Midpoint (number p 0) half_x (number q 0)
  pub y : Midpoint (number p 1) half_y (number q 1)

-- R holds of each two that follow each other, from a first one by those after it to the end
pub data Round {A : Type 0} (R : A → A → Type 0) (end : A) : A → List A → Type 0 where
  ends : {a : A} → R a end → Round R end a []
  goes : {a b : A} {bs : List A} → R a b → Round R end b bs → Round R end a (b ∷ bs)

-- the point at a place; going round, the place after the last is place 0 again
abbrev pub point_at : Points → ℕ → List ℤ
point_at ps k = get_or ps (k % length ps) []

-- of the places that stay k comes next after j: if it did not before, and both points are off-curve, their midpoint is on whole units
pub record Next (ps : Points) (j k : ℕ) : Type 0 where
  pub later : j < k
  pub whole : (k ≡ j + 1 → ⊥) → off_curve (point_at ps j) ≡ true → off_curve (point_at ps k) ≡ true → WholeMidpoint (point_at ps j) (point_at ps k)

-- the places of the row whose points come out: place 0, and others in their order
pub record Stay (ps : Points) : Type 0 where
  pub places : List ℕ
  pub are : finished true ps ≡ map (point_at ps) (0 ∷ places)
  pub round : Round (Next ps) (length ps) 0 places

-- in closed mode no midpoint on half units comes in
abbrev pub NoHalfPoint : Type 0
NoHalfPoint = (ps : Points) → 0 < length ps → Stay ps

-- two neighbours that are not both off-curve; and two that, if they are, have their midpoint on whole units
pub record NotBothOff (p q : List ℤ) : Type 0 where
  pub apart : off_curve p ≡ true → off_curve q ≡ true → ⊥

pub record WholeIfOff (p q : List ℤ) : Type 0 where
  pub whole : off_curve p ≡ true → off_curve q ≡ true → WholeMidpoint p q

-- R holds of each two neighbours, going round
abbrev pub Neighbours : (List ℤ → List ℤ → Type 0) → Points → Type 0
Neighbours R [] = Unit {0}
Neighbours R (p ∷ ps) = Round R p p ps

-- where no two off-curve points were neighbours, each two that are now have their midpoint on whole units
abbrev pub AllWhole : Type 0
AllWhole = (ps : Points) → Neighbours NotBothOff ps → Neighbours WholeIfOff (finished true ps)
