-- A run that is solved, from its contour to the checker's yes: run 0, the curve, of (0, 0) on, (1, 0) off, (1, 1) on, (0, 1) on, in the crate's settings and
-- document 01's full rooms. So what is said of every chain that the chain entry leaves (specs/Accepted, specs/Calls) is said of one at least. Statements;
-- the theorems stand in proofs/Solved.
use Rattle.std.specs.Prelude.{ℕ, ◌<◌, List, [], ◌∷◌, ◌≡◌, ℤ, pos, Float, Ok, true}
use Rattle.std.specs.Float.{binary64}
use Rattle.std.specs.Float.Ieee.{of_bits}
use Rattle.float.specs.Numbers.{nought, one}
use Rattle.rows.specs.Rows.{Work}
use Rattle.rows.specs.Lent.{Inputs, inputs}
use Rattle.settings.specs.Settings.{crate_settings}
use Rattle.optimize.specs.declared.Tally.{Tally}
use Rattle.edition.specs.Scratch.{full_rooms, rooms_of}
use Rattle.chain.specs.declared.Piece.{Piece}
use Rattle.chains.specs.Chains.{chained, chain_of}
use Rattle.chains.specs.Entry as Chains
use Rattle.chains.specs.Determine.{places_of}
use Rattle.checks.specs.Checks.{check_of}
use Rattle.checks.specs.Entry as Checks
use Rattle.fontcrunch.specs.Accepted.{chain_from, given_by, left_by}
use Rattle.fontcrunch.specs.Calls.{ChainGiven, chain_contour, chain_settings, chain_before, chain_work}
use Rattle.fontcrunch.specs.declared.ChainReport.{ChainReport}

abbrev pub xs : List ℤ
xs = pos 0 ∷ pos 1 ∷ pos 1 ∷ pos 0 ∷ []

abbrev pub ys : List ℤ
ys = pos 0 ∷ pos 0 ∷ pos 1 ∷ pos 1 ∷ []

abbrev pub fs : List ℕ
fs = 1 ∷ 0 ∷ 1 ∷ 1 ∷ []

abbrev pub contour : Inputs
contour = inputs xs ys fs

-- from the first break to the last, number 4, with the control (1, 0)
abbrev pub piece : Piece
piece = record { from = 0; to = 4; control = record { x = one; y = nought } }

-- some 2.065: a penalty twice, since the piece is a curve that no curve comes before, and its error
abbrev pub bits_of_score : ℕ
bits_of_score = 0x40008575a44da412

abbrev pub score : Float
score = of_bits binary64 bits_of_score

-- the chain entry's definition gives that piece, after one pair, where the chain's rows have room for one
pub record There (room : ℕ) : Type 0 where
  pub tally : Tally
  pub is : chain_of full_rooms room crate_settings xs ys fs 0 ≡ chained (piece ∷ []) score tally
  pub pairs : tally.pairs ≡ 1

abbrev pub ChainThere : Type 0
ChainThere = (room : ℕ) → 0 < room → There room

-- the checker's definition says yes to it
abbrev pub SaysYes : Type 0
SaysYes = (check_of full_rooms crate_settings xs ys fs (chain_from (piece ∷ []) score) 0).verdict ≡ Ok true

-- demand 3 of the entries, whatever the rows held: what the chain entry leaves in the first place of its rows, checked, is accepted
abbrev pub LeftIsAccepted : Type 0
LeftIsAccepted =
    (c : Chains.Rows) (w w' : Work) → 0 < Chains.room_in c → rooms_of w ≡ full_rooms → rooms_of w' ≡ full_rooms →
    (Checks.whole_of contour crate_settings 0 (given_by (places_of 1 (left_by contour crate_settings 0 c w)) score) w').verdict ≡ Ok true

-- the chain export, asked for it
pub record Asked (g : ChainGiven) : Type 0 where
  pub asked : chain_contour g ≡ contour
  pub settings : chain_settings g ≡ crate_settings
  pub run : g.k ≡ 0
  pub room : 0 < Chains.room_in (chain_before g)
  pub rooms : rooms_of (chain_work g) ≡ full_rooms

-- reports it
abbrev pub Reported : ChainReport → Type 0
Reported r = (r.number ≡ 0) × (r.pieces ≡ 1) × (r.pairs ≡ 1) × (r.score_bits ≡ bits_of_score)
