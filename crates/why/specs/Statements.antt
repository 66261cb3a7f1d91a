-- What W1 asks to be proved of the answer, as types; proofs/Theorems has a proof of each. Definitions only.
use Rattle.std.specs.Prelude.{ℕ, ◌≤◌, Bool, true, false, List, ◌≡◌, ℤ, get_or, Ok}
use Rattle.rows.specs.Lent.{inputs}
use Rattle.rows.specs.Sixteen.{SixteenBits}
use Rattle.geometry.specs.declared.Point.{Point}
use Rattle.outline.specs.Segments.{count_of}
use Rattle.corners.specs.Corners.{turns_x, turns_y, none, marked, chord_at, corners_of}
use Rattle.why.specs.Tests.{first_state, second_state, none_before, none_after, angled, some_reason}
use Rattle.why.specs.Entry.{Promise}
use Rattle.why.specs.declared.Marks.{Marks}

-- whether an index is marked, in a row of marks
abbrev pub is_marked : List Bool → ℕ → Bool
is_marked marks k = get_or marks k false

-- ---- what each test marks by itself, over all segments, as `segment_sp` marks with all of them

module _ (xs ys : List ℤ) (fs : List ℕ) where
  -- a test of the signs marks in two rounds
  abbrev pub in_first : (Point → Point → Bool) → ℕ → Bool
  in_first test k = test (first_state xs ys fs (count_of fs) k) (chord_at xs ys fs k)

  abbrev pub in_second : (Point → Point → Bool) → ℕ → Bool
  in_second test k = test (second_state xs ys fs (count_of fs) k) (chord_at xs ys fs k)

  abbrev pub sign_marks : (Point → Point → Bool) → List Bool
  sign_marks test = marked (in_second test) (count_of fs) (marked (in_first test) (count_of fs) (none 1024))

  abbrev pub tangent_marks : (ℕ → ℕ → Bool) → List Bool
  tangent_marks test = let m = count_of fs in marked (test m) m (none 1024)

-- a contour and an index that are not refused, and the answer
abbrev pub Told : List ℤ → List ℤ → List ℕ → ℕ → Marks → Type 0
Told xs ys fs k r = Promise (inputs xs ys fs) k (Ok r)

-- a reason is named exactly when its own test marks that index
pub record Named (xs ys : List ℤ) (fs : List ℕ) (k : ℕ) (r : Marks) : Type 0 where
  pub x : r.x ≡ is_marked (sign_marks xs ys fs turns_x) k
  pub y : r.y ≡ is_marked (sign_marks xs ys fs turns_y) k
  pub before : r.before ≡ is_marked (tangent_marks xs ys fs (none_before xs ys fs)) k
  pub after : r.after ≡ is_marked (tangent_marks xs ys fs (none_after xs ys fs)) k
  pub angle : r.angle ≡ is_marked (tangent_marks xs ys fs (angled xs ys fs)) k

abbrev pub NamedWhenMarked : Type 0
NamedWhenMarked = (xs ys : List ℤ) (fs : List ℕ) (k : ℕ) (r : Marks) → Told xs ys fs k r → Named xs ys fs k r

-- some reason is named exactly when the index is a corner; an index that is refused by 11 is none
abbrev pub SomeWhenCorner : Type 0
SomeWhenCorner = (xs ys : List ℤ) (fs : List ℕ) (k : ℕ) (r : Marks) → Told xs ys fs k r → some_reason r ≡ is_marked (corners_of xs ys fs 1024) k

abbrev pub NoCornerPast : Type 0
NoCornerPast = (xs ys : List ℤ) (fs : List ℕ) (k : ℕ) → count_of fs ≤ k → is_marked (corners_of xs ys fs 1024) k ≡ false

-- beside a zero tangent there is no angle: 0 / 0 is above no bound
pub record Apart (r : Marks) : Type 0 where
  pub before : r.before ≡ true → r.angle ≡ false
  pub after : r.after ≡ true → r.angle ≡ false

abbrev pub ZeroHasNoAngle : Type 0
ZeroHasNoAngle = (xs ys : List ℤ) (fs : List ℕ) (k : ℕ) (r : Marks) → SixteenBits xs → SixteenBits ys → Told xs ys fs k r → Apart r
