-- The pieces of a stored answer, found by its links. Definitions only.
use Rattle.std.specs.Prelude.{ℕ, zero, suc, min, ◌+◌, ◌-◌, ◌/◌, ◌<◌, ◌≤◌, Bool, true, false, List, [], ◌∷◌, ◌++◌, map, ◌≡◌, ltb, Float, length, get_or, Option, Some, None}
use Rattle.std.specs.Float.{nan}
use Rattle.breaks.specs.Breaks.{Row}
use Rattle.geometry.specs.declared.Quad.{Quad}
use Rattle.contour.specs.Output.{front}
use Rattle.chain.specs.declared.Piece.{Piece}
use Rattle.attempt.specs.Answers.{Statelet}
use Rattle.attempt.specs.Answers as A
use Rattle.optimize.specs.Stored.{Anywhere, Holds, from_break, quad_in}

-- the links lead from stored answer k down to the start of the run
pub data Falls (links : List ℕ) : ℕ → Type 0 where
  first : {k : ℕ} → k < length links → get_or links k 0 ≡ 1 → Falls links k
  after : {k j : ℕ} → k < length links → get_or links k 0 ≡ j + 2 → j < k → Falls links j → Falls links k

-- the stored answers from the start of the run to k, with k + 1 to spend; the test says that k starts the run
unfoldable pub slots_if : ℕ → Bool → List ℕ → ℕ → List ℕ
slots_if zero b links k = []
slots_if (suc f) true links k = k ∷ []
slots_if (suc f) false links k = slots_if f (ltb (get_or links (get_or links k 0 - 2) 0) 2) links (get_or links k 0 - 2) ++ (k ∷ [])

unfoldable pub slots_of : List ℕ → ℕ → List ℕ
slots_of links k = slots_if (k + 1) (ltb (get_or links k 0) 2) links k

-- stored answer k as a piece of a chain
abbrev pub piece_of : List (List Float) → List ℕ → ℕ → Piece
piece_of answers links k = record {
  from = from_break (get_or links k 0);
  to = k / 2;
  control = record { x = get_or (get_or answers k []) 1 nan; y = get_or (get_or answers k []) 2 nan };
}

-- and as a quad
abbrev pub stored_quad : Row → List (List Float) → List ℕ → ℕ → Quad
stored_quad breaks answers links k = quad_in breaks answers k (get_or links k 0)

-- the quads of an answer, first to last
unfoldable pub quads_of : Statelet → List Quad
quads_of (A.first p s) = p.quad ∷ []
quads_of (A.on a p s) = quads_of a ++ (p.quad ∷ [])

-- ---- a chain in four rows: start break, end break, control x, control y

pub data Chain : Type 0 where
  chain : List ℕ → List ℕ → List Float → List Float → Chain

-- the rows with the pieces in their first places
abbrev pub chained : List Piece → Chain → Chain
chained ps (chain starts ends xs ys) =
    chain (front (map (λ (p : Piece). p.from) ps) starts) (front (map (λ (p : Piece). p.to) ps) ends)
    (front (map (λ (p : Piece). p.control.x) ps) xs) (front (map (λ (p : Piece). p.control.y) ps) ys)

-- what a chain leaves in the rows, with the answer of `put_chain`
pub data Left : Type 0 where
  left : Option ℕ → Chain → Left

-- the shortest of the four rows
abbrev pub room_of : Chain → ℕ
room_of (chain starts ends xs ys) = min (min (length starts) (length ends)) (min (length xs) (length ys))

abbrev pub put_if : Bool → List Piece → Chain → Left
put_if true ps c = left None c
put_if false ps c = left (Some (length ps)) (chained ps c)

-- all pieces, or none where they are more than `most` or the shortest row has no room for them
unfoldable pub put_of : ℕ → List Piece → Chain → Left
put_of most ps c = put_if (ltb (min most (room_of c)) (length ps)) ps c

-- ---- what stands in the rows

-- every piece of an answer starts and ends at one of n breaks
unfoldable pub Within : ℕ → Statelet → Type 0
Within n (A.first p s) = (p.from < n) × (p.to < n)
Within n (A.on a p s) = Within n a × ((p.from < n) × (p.to < n))

-- stored answer k can be read, and starts and ends at one of n breaks
pub record Legible (n : ℕ) (answers : List (List Float)) (links : List ℕ) (k : ℕ) : Type 0 where
  pub in_answers : k < length answers
  pub in_links : k < length links
  pub from : from_break (get_or links k 0) < n
  pub to : k / 2 < n

-- P holds of each
pub data Each {A : Type 0} (P : A → Type 0) : List A → Type 0 where
  none : Each P []
  one : {a : A} {s : List A} → P a → Each P s → Each P (a ∷ s)

-- the rows stand for an answer at stored answer k
pub record Stored (breaks : Row) (answers : List (List Float)) (links : List ℕ) (k : ℕ) : Type 0 where
  pub answer : Statelet
  pub holds : Holds Anywhere breaks answers links k answer
  pub within : Within (length breaks) answer
  pub few : length breaks ≤ 2048

-- of some breaks
pub record Held (answers : List (List Float)) (links : List ℕ) (k : ℕ) : Type 0 where
  pub breaks : Row
  pub stored : Stored breaks answers links k
