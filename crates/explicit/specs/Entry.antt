-- `explicit_contour` over a contour: what it answers, and what it leaves in the rows. Definitions only.
use Rattle.std.specs.Prelude.{ℕ, min, Bool, true, false, not, ◌&&◌, List, [], ◌∷◌, ◌≡◌, ltb, ℤ, length, Result, Ok, Err}
use denote.Triple.Both.{Both}
use Rattle.refusals.specs.Refusals.{is_on, rows_differ, no_point, too_many, refuse}
use Rattle.refusals.specs.declared.refusal.Refusal.TheVariants.{UnevenRows, NoPoint, TooManyPoints, OutputTooShort, NoOnCurve}
use Rattle.refusals.specs.declared.refusal.Refusal.{Refusal}
use Rattle.refusals.specs.Number.{number_of}
use Rattle.rows.specs.Lent.{Lent, before, after, Inputs, inputs}
use Rattle.contour.specs.Points.{Points}
use Rattle.contour.specs.Output.{Outputs, outputs, with_points}
use Rattle.explicit.specs.Explicit.{explicit_of}

abbrev pub lent : Lent ℤ → Lent ℤ → Lent ℕ → Both Outputs Outputs
lent ox oy of = record { entry = outputs (before ox) (before oy) (before of); exit = outputs (after ox) (after oy) (after of) }

-- the shortest output row
abbrev pub room_of : Outputs → ℕ
room_of (outputs ox oy of) = min (min (length ox) (length oy)) (length of)

-- ---- refusals

-- 21: no on-curve point
unfoldable pub none_on : List ℕ → Bool
none_on [] = true
none_on (f ∷ fs) = not (is_on f) && none_on fs

-- 1, 2 and 21 are tested in that order; 3 counts the points after implied ones are put in, and comes after them
unfoldable pub judged_rows : List ℤ → List ℤ → List ℕ → Result Unit Refusal
judged_rows xs ys fs =
    let n = length fs in
    refuse UnevenRows (rows_differ (length xs) (length ys) n) (refuse NoPoint (no_point n) (refuse NoOnCurve (none_on fs) (Ok tt)))

abbrev pub judged_of : Inputs → Result Unit Refusal
judged_of (inputs xs ys fs) = judged_rows xs ys fs

-- the documents' values for each answer: its number, which is 0 where nothing is refused, and the points written
pub record Report : Type 0 where
  pub number : ℕ
  pub points : ℕ

abbrev pub refusing : Refusal → Report
refusing k = record { number = number_of k; points = 0 }

abbrev pub writing : ℕ → Report
writing n = record { number = 0; points = n }

abbrev pub report : Result ℕ Refusal → Report
report (Err k) = refusing k
report (Ok n) = writing n

-- what becomes of a contour: said by an answer, or by the documents' values
module _ {A : Type 0} (refused : Refusal → A) (wrote : ℕ → A) where
  abbrev pub refuse_if : Refusal → Bool → A → A
  refuse_if k true later = refused k
  refuse_if k false later = later

  -- 3: more than 1,024 points; last 9: an output row too short
  abbrev pub said_in : ℕ → Points → A
  said_in room ps = refuse_if TooManyPoints (too_many (length ps)) (refuse_if OutputTooShort (ltb room (length ps)) (wrote (length ps)))

  abbrev pub said_after : Result Unit Refusal → A → A
  said_after (Err k) later = refused k
  said_after (Ok tt) later = later

  abbrev pub said_of : Inputs → ℕ → A
  said_of i room = said_after (judged_of i) (said_in room (explicit_of i))

abbrev pub answer_in : ℕ → Points → Result ℕ Refusal
answer_in = said_in Err Ok

abbrev pub after_judging : Result Unit Refusal → Result ℕ Refusal → Result ℕ Refusal
after_judging = said_after Err Ok

abbrev pub whole_of : Inputs → ℕ → Result ℕ Refusal
whole_of = said_of Err Ok

abbrev pub values_of : Inputs → ℕ → Report
values_of = said_of refusing writing

-- ---- the contract

-- what is left in the output rows: a refusal writes nothing
abbrev pub left_by : Result ℕ Refusal → Points → Outputs → Outputs
left_by (Err k) ps o = o
left_by (Ok n) ps o = with_points ps o

-- what comes of points that are put in, in the rows w
pub record WrittenOut (ps : Points) (w : Both Outputs Outputs) (r : Result ℕ Refusal) : Type 0 where
  pub answer : r ≡ answer_in (room_of w.entry) ps
  pub left : w.exit ≡ left_by r ps w.entry

-- the entry's contract: what it hands back, by its case and by the documents' values, and what it leaves in the rows w
pub record Promise (i : Inputs) (w : Both Outputs Outputs) (r : Result ℕ Refusal) : Type 0 where
  pub answer : r ≡ whole_of i (room_of w.entry)
  pub values : report r ≡ values_of i (room_of w.entry)
  pub left : w.exit ≡ left_by r (explicit_of i) w.entry
