-- What the chain entry hands back and leaves in every lent row. Definitions only.
use Rattle.std.specs.Prelude.{ℕ, min, List, map, ◌≡◌, Float, length, Result, Ok, Err}
use denote.Triple.Both.{Both}
use Rattle.float.specs.Numbers.{nought}
use Rattle.refusals.specs.declared.refusal.Refusal.{Refusal}
use Rattle.refusals.specs.Number.{number_of}
use Rattle.rows.specs.Rows.{Work}
use Rattle.rows.specs.Lent.{Lent, before, after, Inputs, inputs}
use Rattle.settings.specs.declared.Settings.{Settings}
use Rattle.breaks.specs.Breaks.{Row}
use Rattle.contour.specs.Output.{front}
use Rattle.edition.specs.Scratch.{Scratch, rooms_of, cleared}
use Rattle.pieces.specs.Slots.{Chain, chain, chained, room_of}
use Rattle.chains.specs.Chains.{Outcome, refused, unchanged, chain_of}
use Rattle.chains.specs.Chains as Chains
use Rattle.chains.specs.Spans.{span_of, breaks_at}
use Rattle.chains.specs.declared.Chained as C
use Rattle.chains.specs.declared.Chained.TheVariants as Chained

-- document 01's values for each answer: its number, which is 0 where nothing is refused, the pieces written, the score and the pairs tried;
-- and document 02's lookups that fell
pub record Report : Type 0 where
  pub number : ℕ
  pub pieces : ℕ
  pub score : Float
  pub pairs : ℕ
  pub fallen : ℕ

abbrev pub report : Result C.Chained Refusal → Report
report (Err k) = record { number = number_of k; pieces = 0; score = nought; pairs = 0; fallen = 0 }
report (Ok (Chained.Unchanged t)) = record { number = 0; pieces = 0; score = nought; pairs = t.pairs; fallen = t.fallen }
report (Ok (Chained.Pieces n s t)) = record { number = 0; pieces = n; score = s; pairs = t.pairs; fallen = t.fallen }

-- the same values, of what becomes of a run
abbrev pub values_of : Outcome → Report
values_of (refused k) = record { number = number_of k; pieces = 0; score = nought; pairs = 0; fallen = 0 }
values_of (unchanged t) = record { number = 0; pieces = 0; score = nought; pairs = t.pairs; fallen = t.fallen }
values_of (Chains.chained ps s t) = record { number = 0; pieces = length ps; score = s; pairs = t.pairs; fallen = t.fallen }

abbrev pub answer_of : Outcome → Result C.Chained Refusal
answer_of (refused k) = Err k
answer_of (unchanged t) = Ok (Chained.Unchanged t)
answer_of (Chains.chained ps s t) = Ok (Chained.Pieces (length ps) s t)

-- ---- the rows

-- a chain in four rows, and in the fifth the segments of each piece's two breaks
pub data Rows : Type 0 where
  rows : Chain → List (List ℕ) → Rows

-- the shortest of the five
abbrev pub room_in : Rows → ℕ
room_in (rows c spans) = min (length spans) (room_of c)

-- a refusal and an unchanged run write no place; else the first places are written and no others
abbrev pub rows_of : Outcome → Row → Rows → Rows
rows_of (refused k) breaks c = c
rows_of (unchanged t) breaks c = c
rows_of (Chains.chained ps s t) breaks (rows c spans) = rows (chained ps c) (front (map (span_of breaks) ps) spans)

-- the chain's rows, lent and handed back
abbrev pub LentChain : Type 0
LentChain = Both Rows Rows

abbrev pub chain_in : Lent ℕ → Lent ℕ → Lent Float → Lent Float → Lent (List ℕ) → LentChain
chain_in st en cx cy sp = record {
  entry = rows (chain (before st) (before en) (before cx) (before cy)) (before sp);
  exit = rows (chain (after st) (after en) (after cx) (after cy)) (after sp);
}

-- run k of a contour
abbrev pub whole_of : Inputs → Settings → ℕ → Rows → Work → Outcome
whole_of (inputs xs ys fs) settings k c w = chain_of (rooms_of w) (room_in c) settings xs ys fs k

-- its breaks, each with its segment
abbrev pub breaks_in : Inputs → Settings → ℕ → Work → Row
breaks_in (inputs xs ys fs) settings k w = breaks_at (rooms_of w) settings xs ys fs k

-- the entry's contract: what it hands back, by its case and by document 01's values, what it leaves in the chain's rows, and that the scratch rows are zero
-- throughout, whatever they held
pub record Promise (i : Inputs) (settings : Settings) (k : ℕ) (c : LentChain) (w : Scratch) (r : Result C.Chained Refusal) : Type 0 where
  pub answer : r ≡ answer_of (whole_of i settings k c.entry w.entry)
  pub values : report r ≡ values_of (whole_of i settings k c.entry w.entry)
  pub rows : c.exit ≡ rows_of (whole_of i settings k c.entry w.entry) (breaks_in i settings k w.entry) c.entry
  pub work : w.exit ≡ cleared w.entry
