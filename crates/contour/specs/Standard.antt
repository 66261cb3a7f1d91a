-- Implied points by OpenType, for a reader: between two off-curve points that follow each other an on-curve point is implied at their midpoint.
-- Each statement is a type here, and a theorem of proofs/Standard is of that type: `tests_agree`, `implied_at_midpoint`, `midpoint_implied`,
-- `outline_kept`. Definitions and statements only.
use Rattle.std.specs.Prelude.{ℕ, ◌%◌, ◌^◌, ◌<◌, true, false, List, [], ◌∷◌, ◌++◌, ◌≡◌, ℤ, pos, ◌+ℤ◌, length, get_or, take, drop}
use Rattle.std.specs.Int.Signed.{mag, quot_z}
use Rattle.outline.specs.Segments.{previous}
use Rattle.contour.specs.Points.{Points}
use Rattle.contour.specs.Implied.{number, off_curve, is_implied, implied_at, removed}

-- ---- the two tests

-- a sum of two coordinates that fits 16 bits, -2 ^ 15 to 2 ^ 15 - 1, and is even
pub record FitsAndEven (sum : ℤ) : Type 0 where
  pub fits : mag sum < 2 ^ 15
  pub half : ℤ
  pub even : half +ℤ half ≡ sum

-- where both sums are such, closed mode's test and that of the crate's mode agree
abbrev pub TestsAgree : Type 0
TestsAgree = (prev this next : List ℤ) → FitsAndEven (number prev 0 +ℤ number next 0) → FitsAndEven (number prev 1 +ℤ number next 1) →
    is_implied true prev this next ≡ is_implied false prev this next

-- ---- the midpoint

-- m is the exact midpoint of a and b
abbrev pub Midpoint : ℤ → ℤ → ℤ → Type 0
Midpoint a m b = m +ℤ m ≡ a +ℤ b

-- an on-curve point at the exact midpoint of two off-curve ones
pub record AtMidpoint (prev this next : List ℤ) : Type 0 where
  pub on : off_curve this ≡ false
  pub prev_off : off_curve prev ≡ true
  pub next_off : off_curve next ≡ true
  pub x : Midpoint (number prev 0) (number this 0) (number next 0)
  pub y : Midpoint (number prev 1) (number this 1) (number next 1)

-- in closed mode such a point is implied, and no other
abbrev pub ImpliedAtMidpoint : Type 0
ImpliedAtMidpoint = (prev this next : List ℤ) → is_implied true prev this next ≡ true → AtMidpoint prev this next

abbrev pub MidpointImplied : Type 0
MidpointImplied = (prev this next : List ℤ) → AtMidpoint prev this next → is_implied true prev this next ≡ true

-- ---- the outline

-- the midpoint of a and b where it is whole
abbrev pub midpoint_of : ℤ → ℤ → ℤ
midpoint_of a b = quot_z (a +ℤ b) (pos 2)

-- the point that OpenType has between two off-curve ones
abbrev pub implied_between : List ℤ → List ℤ → List ℤ
implied_between prev next = midpoint_of (number prev 0) (number next 0) ∷ midpoint_of (number prev 1) (number next 1) ∷ pos 1 ∷ []

-- that point put in before place i, between the neighbours going round
abbrev pub put_back : Points → ℕ → Points
put_back ps i = take i ps ++ (implied_between (get_or ps (previous (length ps) i) []) (get_or ps (i % length ps) []) ∷ drop i ps)

-- dropping a point changes no outline: what OpenType has in its place is the point that went
abbrev pub OutlineKept : Type 0
OutlineKept = (ps : Points) (i : ℕ) (x y : ℤ) → i < length ps → get_or ps i [] ≡ x ∷ y ∷ pos 1 ∷ [] →
    implied_at (is_implied true) ps i ≡ true → put_back (removed ps i) i ≡ ps
