-- What the checker's entry hands back and leaves in every lent row. Definitions only.
use Rattle.std.specs.Prelude.{ℕ, Bool, true, false, ◌≡◌, Float, Result, Ok, Err}
use Rattle.refusals.specs.declared.refusal.Refusal.{Refusal}
use Rattle.refusals.specs.Number.{number_of}
use Rattle.rows.specs.Rows.{Work}
use Rattle.rows.specs.Lent.{Shared, shared, Inputs, inputs}
use Rattle.settings.specs.declared.Settings.{Settings}
use Rattle.rows.specs.Scratch.{Scratch, rooms_of, cleared}
use Rattle.checks.specs.Checks.{GivenChain, check_of}
use Rattle.checks.specs.declared.Ruling.{Ruling}

-- document 01's values for each answer: its number, which is 0 where nothing is refused, whether the chain is accepted, and document 02's lookups that fell
pub record Report : Type 0 where
  pub number : ℕ
  pub accepted : Bool
  pub fallen : ℕ

abbrev pub report_of : Result Bool Refusal → ℕ → Report
report_of (Err k) n = record { number = number_of k; accepted = false; fallen = 0 }
report_of (Ok true) n = record { number = 0; accepted = true; fallen = n }
report_of (Ok false) n = record { number = 0; accepted = false; fallen = n }

abbrev pub report : Ruling → Report
report r = report_of r.verdict r.fallen

-- a chain as it is lent, to be read
abbrev pub chain_given : Shared ℕ → Shared ℕ → Shared Float → Shared Float → Float → GivenChain
chain_given starts ends cxs cys score = record { starts = shared starts; ends = shared ends; xs = shared cxs; ys = shared cys; score = score }

-- a chain for run k of a contour
abbrev pub whole_of : Inputs → Settings → ℕ → GivenChain → Work → Ruling
whole_of (inputs xs ys fs) settings k c w = check_of (rooms_of w) settings xs ys fs c k

-- the entry's contract: what it hands back, with document 01's values, and what it leaves in the scratch rows w
pub record Promise (i : Inputs) (settings : Settings) (k : ℕ) (c : GivenChain) (w : Scratch) (r : Ruling) : Type 0 where
  pub ruling : r ≡ whole_of i settings k c w.entry
  pub values : report r ≡ report (whole_of i settings k c w.entry)
  pub left : w.exit ≡ cleared w.entry
