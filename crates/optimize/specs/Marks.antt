-- The bent piece of a pair, and marks: what the search into a break may start from without ending otherwise. For the contracts of functions that are not
-- public. Definitions only.
use Rattle.std.specs.Prelude.{ℕ, ◌+◌, ◌*◌, ◌≤◌, ◌<◌, Bool, true, false, List, ◌≡◌, length, Float, Option, Some, None}
use Rattle.rows.specs.Lent.{Lent, before, after}
use Rattle.geometry.specs.Geometry.{is_whole, line_quad, round_point_of, intersect_of}
use Rattle.geometry.specs.declared.Quad.{Quad}
use Rattle.geometry.specs.declared.Point.{Point}
use Rattle.breaks.specs.Breaks.{Row, break_at}
use Rattle.attempt.specs.Answers.{Best, ok_for_half}
use Rattle.optimize.specs.Optimize.{best_at, falling}
use Rattle.optimize.specs.Stored.{slot_at, Inside, Phase, Room, Into, Rep}
use Rattle.optimize.specs.Steps.{by_all}

-- ---- the bent piece, at the rounded crossing of the two directions, if it is allowed there

abbrev pub bend_if : Bool → Quad → Option Quad
bend_if true q = Some q
bend_if false q = None

abbrev pub bend_at : Row → Best → ℕ → ℕ → Option Point → Option Quad
bend_at breaks previous i j None = None
bend_at breaks previous i j (Some p) =
    let q : Quad = record { p0 = (break_at breaks i).xy; p1 = round_point_of p; p2 = (break_at breaks j).xy } in
    bend_if (ok_for_half previous q) q

-- from break i, where `previous` stands, to break j
unfoldable pub bend_of : Row → Best → ℕ → ℕ → Option Quad
bend_of breaks previous i j =
    bend_at breaks previous i j (intersect_of (break_at breaks i).xy (break_at breaks i).dir (break_at breaks j).xy (break_at breaks j).dir)

-- what is read for it
pub record Reads (breaks : Row) (answers : List (List Float)) (links : List ℕ) (i j : ℕ) : Type 0 where
  pub from : i < length breaks
  pub to : j < length breaks
  pub links_of : 2 * i + 1 < length links
  pub stands : Inside breaks answers links (slot_at links i)

-- the rows stand for some states, and r is the bent piece in these
abbrev pub Bends : Row → List (List Float) → List ℕ → ℕ → ℕ → Option Quad → Type 0
Bends breaks answers links i j r = (f : Phase) (n : ℕ) (st : List Best) → i ≤ n → Rep f n breaks answers links st → r ≡ bend_of breaks (best_at st i) i j

-- ---- marks

-- a piece that the pair (i, j) tries, where `previous` stands at i
pub data Offers (breaks : Row) (previous : Best) (i j : ℕ) (q : Quad) : Type 0 where
  by_line : is_whole (break_at breaks i).xy ≡ true → q ≡ line_quad (break_at breaks i).xy (break_at breaks j).xy → Offers breaks previous i j q
  by_bend : (Some q) ≡ bend_of breaks previous i j → Offers breaks previous i j q

-- in the states that the rows stand for
abbrev pub Offered : Row → List (List Float) → List ℕ → ℕ → ℕ → Quad → Type 0
Offered breaks answers links i j q = (f : Phase) (n : ℕ) (st : List Best) → i ≤ n → Rep f n breaks answers links st → Offers breaks (best_at st i) i j q

-- the rows stand for states from which the search into break j ends as it does from the states st, and as many lookups fall in it
pub record Marked (samples : List (List Float)) (breaks : Row) (penalty : Float) (f : Phase) (n : ℕ) (answers : List (List Float)) (links : List ℕ) (j : ℕ)
    (st : List Best) : Type 0 where
  pub now : List Best
  pub rep : Rep f n breaks answers links now
  pub same : by_all samples breaks penalty (falling j j) st ≡ by_all samples breaks penalty (falling j j) now

-- what a mark leaves in the rows
abbrev pub Prepares : List (List Float) → Row → Float → Phase → ℕ → Lent (List Float) → Lent ℕ → ℕ → Type 0
Prepares samples breaks penalty f n answers links j =
    (st : List Best) → Rep f n breaks (before answers) (before links) st → Marked samples breaks penalty f n (after answers) (after links) j st

-- a mark with a piece from break i
abbrev pub Marks : List (List Float) → Row → Float → Lent (List Float) → Lent ℕ → ℕ → ℕ → ℕ → Type 0
Marks samples breaks penalty answers links i j k =
    (f : Phase) (n : ℕ) → Room n breaks (before answers) (before links) → Into f n i j k → Prepares samples breaks penalty f n answers links j
