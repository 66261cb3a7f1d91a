-- What the entry hands back. It writes no row. Definitions only.
use Rattle.std.specs.Prelude.{ℕ, Bool, true, false, ◌≡◌, ltb, Result, Ok, Err}
use Rattle.refusals.specs.Refusals.{judged}
use Rattle.refusals.specs.declared.refusal.Refusal.TheVariants.{NoSuchSegment}
use Rattle.refusals.specs.declared.refusal.Refusal.{Refusal}
use Rattle.refusals.specs.Number.{number_of}
use Rattle.rows.specs.Lent.{Inputs, inputs}
use Rattle.outline.specs.Segments.{count_of}
use Rattle.why.specs.Tests.{reasons_of}
use Rattle.why.specs.declared.Marks.{Marks}

-- the documents' values for each answer: its number, which is 0 where nothing is refused, and the reasons
pub record Report : Type 0 where
  pub number : ℕ
  pub reasons : Marks

abbrev pub no_reason : Marks
no_reason = record { x = false; y = false; before = false; after = false; angle = false }

abbrev pub refusing : Refusal → Report
refusing k = record { number = number_of k; reasons = no_reason }

abbrev pub telling : Marks → Report
telling m = record { number = 0; reasons = m }

abbrev pub report : Result Marks Refusal → Report
report (Err k) = refusing k
report (Ok m) = telling m

-- what is said of a segment: by an answer, or by the documents' values
module _ {A : Type 0} (refused : Refusal → A) (tell : Marks → A) where
  -- 11: the index is not below the number of segments
  abbrev pub said_below : Bool → A → A
  said_below true later = later
  said_below false later = refused NoSuchSegment

  -- 1 to 5 first
  abbrev pub said_after : Result Unit Refusal → A → A
  said_after (Err n) later = refused n
  said_after (Ok tt) later = later

  abbrev pub said_of : Inputs → ℕ → A
  said_of (inputs xs ys fs) k =
      let m = count_of fs in
      said_after (judged xs ys fs) (said_below (ltb k m) (tell (reasons_of xs ys fs m k)))

abbrev pub unless_below : Bool → Result Marks Refusal → Result Marks Refusal
unless_below = said_below Err Ok

abbrev pub after_judging : Result Unit Refusal → Result Marks Refusal → Result Marks Refusal
after_judging = said_after Err Ok

abbrev pub why_of : Inputs → ℕ → Result Marks Refusal
why_of = said_of Err Ok

abbrev pub values_of : Inputs → ℕ → Report
values_of = said_of refusing telling

-- the entry's contract: what it hands back, by its case and by the documents' values
pub record Promise (i : Inputs) (k : ℕ) (r : Result Marks Refusal) : Type 0 where
  pub answer : r ≡ why_of i k
  pub values : report r ≡ values_of i k
