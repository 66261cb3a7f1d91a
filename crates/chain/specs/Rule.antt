-- The user's rule for a chain, in the user's words, as facts and not as a test: joined break by break from the first break to the last, rising; each
-- piece straight or bent; the clause on half units; and a sum that is there and equals the score. The theorem that the checker says yes exactly then
-- is `valid_exactly` of proofs/Rule.antt. Definitions only.
use Rattle.std.specs.Prelude.{ℕ, suc, ◌-◌, ◌<◌, ◌≤◌, true, false, List, [], ◌∷◌, ◌⊎◌, ◌↔◌, ◌≡◌, length, Float, Option, Some, None}
use Rattle.std.specs.Float.{nan}
use Rattle.std.specs.Float.Ieee.{eq}
use Rattle.float.specs.Numbers.{half}
use Rattle.geometry.specs.Geometry.{lerp_of, is_close, is_line, is_whole, intersect_of, round_point_of}
use Rattle.geometry.specs.declared.Break.{Break}
use Rattle.geometry.specs.declared.Point.{Point}
use Rattle.geometry.specs.declared.Quad.{Quad}
use Rattle.breaks.specs.Breaks.{Row, break_at}
use Rattle.chain.specs.Valid.{drawn, piece_quad, sum_of, chain_in, check_rows}
use Rattle.chain.specs.declared.Piece.{Piece}

-- ---- equal as f64 values, NaN equal to NaN

abbrev pub Equal : Float → Float → Type 0
Equal a b = (eq a b ≡ true) ⊎ ((a ≡ nan) × (b ≡ nan))

abbrev pub EqualPoints : Point → Point → Type 0
EqualPoints p q = Equal p.x q.x × Equal p.y q.y

-- ---- one piece, from break a to break b with the control c

-- the control is halfway between the ends
abbrev pub Straight : Break → Break → Point → Type 0
Straight a b c = EqualPoints c (lerp_of a.xy b.xy half)

-- the two directions cross, and the control is the crossing, rounded
pub record Bent (a b : Break) (c : Point) : Type 0 where
  pub crossing : Point
  pub crosses : intersect_of a.xy a.dir b.xy b.dir ≡ Some crossing
  pub control : EqualPoints c (round_point_of crossing)

abbrev pub OnWhole : Break → Type 0
OnWhole a = is_whole a.xy ≡ true

abbrev pub Curved : Quad → Type 0
Curved q = is_line q ≡ false

-- a curved piece is before this one, and the middle of the two controls is at the join
pub data Follows : Option Quad → Quad → Type 0 where
  smoothly : {p q : Quad} → Curved p → is_close (lerp_of p.p1 q.p1 half) q.p0 ≡ true → Follows (Some p) q

pub record Fine (before : Option Quad) (a b : Break) (c : Point) : Type 0 where
  -- straight from a whole-unit break, or bent
  pub drawn_so : (OnWhole a × Straight a b c) ⊎ Bent a b c
  -- and a piece that starts off whole units is curved and follows a curved one
  pub on_grid_lem : OnWhole a ⊎ (Curved (drawn a b c) × Follows before (drawn a b c))

-- ---- the pieces of a chain

-- from break `at` on, each starts where the one before ended, numbers rise, and the last ends at break n
pub data Leads (n : ℕ) : ℕ → List Piece → Type 0 where
  arrived : Leads n n []
  onward : {p : Piece} {ps : List Piece} → p.from < p.to → p.to ≤ n → Leads n p.to ps → Leads n p.from (p ∷ ps)

-- from the first break to the last, n; a run with one break has one piece, staying there
pub data Joined : ℕ → List Piece → Type 0 where
  staying : {p : Piece} → p.from ≡ 0 → p.to ≡ 0 → Joined 0 (p ∷ [])
  leading : {n : ℕ} {ps : List Piece} → Leads (suc n) 0 ps → Joined (suc n) ps

module _ (breaks : Row) where
  pub data Each : Option Quad → List Piece → Type 0 where
    all : {before : Option Quad} → Each before []
    and : {before : Option Quad} {p : Piece} {ps : List Piece} → Fine before (break_at breaks p.from) (break_at breaks p.to) p.control →
        Each (Some (piece_quad breaks p)) ps → Each before (p ∷ ps)

  pub record Shaped (ps : List Piece) : Type 0 where
    pub joined : Joined (length breaks - 1) ps
    pub pieces : Each None ps

-- ---- the chain

pub record Obeys (samples : List (List Float)) (breaks : Row) (penalty : Float) (ps : List Piece) (score : Float) : Type 0 where
  pub shape : Shaped breaks ps
  -- the published sum is there, and equals the score
  pub sum : Float
  pub summed : sum_of samples breaks penalty ps ≡ Some sum
  pub equal : Equal sum score

-- rows of equal length
pub record Even (starts ends : List ℕ) (xs ys : List Float) : Type 0 where
  pub to : length ends ≡ length starts
  pub x : length xs ≡ length starts
  pub y : length ys ≡ length starts

-- a chain in rows, with its score
pub record Valid (samples : List (List Float)) (breaks : Row) (penalty : Float) (starts ends : List ℕ) (xs ys : List Float) (score : Float) : Type 0 where
  pub even : Even starts ends xs ys
  pub obeys : Obeys samples breaks penalty (chain_in starts ends xs ys) score

abbrev pub ValidExactly : Type 0
ValidExactly =
    (samples : List (List Float)) (breaks : Row) (penalty : Float) (starts ends : List ℕ) (xs ys : List Float) (score : Float) →
    (check_rows samples breaks penalty starts ends xs ys score ≡ Some true) ↔ Valid samples breaks penalty starts ends xs ys score
