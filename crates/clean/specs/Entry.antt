-- What the cleaning entry hands back and leaves in every lent row. Definitions only.
use Rattle.std.specs.Prelude.{ℕ, min, ◌+◌, ◌-◌, ◌%◌, Bool, true, false, List, map, ◌≡◌, ltb, ℤ, pos, length, get_or, Result, Ok, Err}
use denote.Triple.Both.{Both}
use Rattle.refusals.specs.Refusals.{rows_differ, no_point, judged, refuse}
use Rattle.refusals.specs.declared.refusal.Refusal.TheVariants.{UnevenRows, NoPoint, TooManyPoints, OutputTooShort, ListTooShort}
use Rattle.refusals.specs.declared.refusal.Refusal.{Refusal}
use Rattle.refusals.specs.Number as Number
use Rattle.contour.specs.Output.{Outputs, outputs, front}
use Rattle.rows.specs.Lent.{Lent, before, after, Inputs, inputs}
use Rattle.clean.specs.Clean.{Cleaning, cleaned, clean_of}
use Rattle.clean.specs.PutBack.{number_of, why_of, bit_by, spots_of}
use Rattle.clean.specs.declared.Cleaned.{Cleaned}

-- ---- points by their numbers

abbrev pub coordinate_in : List ℤ → ℕ → ℤ
coordinate_in row k = get_or row k (pos 0)

-- kept flags go out as 1 or 0
abbrev pub bit_in : List ℕ → ℕ → ℕ
bit_in row k = get_or row k 0 % 2

-- the points of these numbers, in the first places of the output rows; other places stay
abbrev pub points_into : Inputs → List ℕ → Outputs → Outputs
points_into (inputs xs ys fs) ks (outputs ox oy of) =
    outputs (front (map (coordinate_in xs) ks) ox) (front (map (coordinate_in ys) ks) oy) (front (map (bit_in fs) ks) of)

-- ---- the rows that are written: output rows and list

pub data Rows : Type 0 where
  rows : Outputs → List (List ℕ) → Rows

abbrev pub lent : Lent ℤ → Lent ℤ → Lent ℕ → Lent (List ℕ) → Both Rows Rows
lent ox oy of list =
    record { entry = rows (outputs (before ox) (before oy) (before of)) (before list); exit = rows (outputs (after ox) (after oy) (after of)) (after list) }

-- the shortest output row
abbrev pub point_room : Rows → ℕ
point_room (rows (outputs ox oy of) list) = min (min (length ox) (length oy)) (length of)

abbrev pub list_room : Rows → ℕ
list_room (rows o list) = length list

-- ---- the answer

-- the documents' values for each answer: its number, which is 0 where nothing is refused, the points kept and the points dropped
pub record Report : Type 0 where
  pub number : ℕ
  pub kept : ℕ
  pub dropped : ℕ

abbrev pub refusing : Refusal → Report
refusing k = record { number = Number.number_of k; kept = 0; dropped = 0 }

abbrev pub keeping : ℕ → ℕ → Report
keeping n m = record { number = 0; kept = n; dropped = m }

abbrev pub report : Result Cleaned Refusal → Report
report (Err k) = refusing k
report (Ok c) = keeping c.kept c.dropped

abbrev pub judged_of : Inputs → Result Unit Refusal
judged_of (inputs xs ys fs) = judged xs ys fs

abbrev pub cleaning_of : Inputs → Cleaning
cleaning_of (inputs xs ys fs) = clean_of xs ys fs (length fs - 1)

-- what becomes of a contour: said by an answer, or by the documents' values
module _ {A : Type 0} (refused : Refusal → A) (points-said : ℕ → ℕ → A) where
  abbrev pub refuse_if : Refusal → Bool → A → A
  refuse_if k true later = refused k
  refuse_if k false later = later

  -- 18: the list row is too short for the drops; last 9: an output row is too short for the points kept
  abbrev pub said_in : ℕ → ℕ → Cleaning → A
  said_in list points (cleaned kept drops) =
      refuse_if ListTooShort (ltb list (length drops)) (refuse_if OutputTooShort (ltb points (length kept)) (points-said (length kept) (length drops)))

  -- 1 to 5 first
  abbrev pub said_after : Result Unit Refusal → A → A
  said_after (Err k) later = refused k
  said_after (Ok tt) later = later

  abbrev pub said_of : Inputs → Cleaning → ℕ → ℕ → A
  said_of i c list points = said_after (judged_of i) (said_in list points c)

abbrev pub answer_in : ℕ → ℕ → Cleaning → Result Cleaned Refusal
answer_in = said_in Err (λ k d. Ok (record { kept = k; dropped = d }))

abbrev pub after_judging : Result Unit Refusal → Result Cleaned Refusal → Result Cleaned Refusal
after_judging = said_after Err (λ k d. Ok (record { kept = k; dropped = d }))

abbrev pub whole_of : Inputs → Cleaning → ℕ → ℕ → Result Cleaned Refusal
whole_of = said_of Err (λ k d. Ok (record { kept = k; dropped = d }))

abbrev pub values_of : Inputs → Cleaning → ℕ → ℕ → Report
values_of = said_of refusing keeping

abbrev pub written_in : Inputs → Cleaning → Rows → Rows
written_in i (cleaned kept drops) (rows o list) = rows (points_into i kept o) (front drops list)

-- a refusal writes nothing
abbrev pub left_by : Result Cleaned Refusal → Inputs → Cleaning → Rows → Rows
left_by (Err k) i c r = r
left_by (Ok n) i c r = written_in i c r

-- of a contour that is cleaned
pub record Written (i : Inputs) (c : Cleaning) (w : Both Rows Rows) (r : Result Cleaned Refusal) : Type 0 where
  pub answer : r ≡ answer_in (list_room w.entry) (point_room w.entry) c
  pub left : w.exit ≡ left_by r i c w.entry

-- the contract of an entry that keeps and lists what c says: what it hands back, by its case and by the documents' values, and what it leaves in the rows w
pub record Sifts (i : Inputs) (c : Cleaning) (w : Both Rows Rows) (r : Result Cleaned Refusal) : Type 0 where
  pub answer : r ≡ whole_of i c (list_room w.entry) (point_room w.entry)
  pub values : report r ≡ values_of i c (list_room w.entry) (point_room w.entry)
  pub left : w.exit ≡ left_by r i c w.entry

-- the cleaning entry's
abbrev pub Promise : Inputs → Both Rows Rows → Result Cleaned Refusal → Type 0
Promise i w r = Sifts i (cleaning_of i) w r

-- ---- putting back: kept points and a list

abbrev pub spot_x : List ℤ → List ℕ → ℤ
spot_x row s = coordinate_in row (number_of s)

abbrev pub spot_bit : List ℕ → List ℕ → ℕ
spot_bit fs s = bit_by (why_of s) (bit_in fs (number_of s))

abbrev pub spots_into : Inputs → List (List ℕ) → Outputs → Outputs
spots_into (inputs xs ys fs) spots (outputs ox oy of) =
    outputs (front (map (spot_x xs) spots) ox) (front (map (spot_x ys) spots) oy) (front (map (spot_bit fs) spots) of)

abbrev pub lent_outputs : Lent ℤ → Lent ℤ → Lent ℕ → Both Outputs Outputs
lent_outputs ox oy of = record { entry = outputs (before ox) (before oy) (before of); exit = outputs (after ox) (after oy) (after of) }

abbrev pub output_room : Outputs → ℕ
output_room (outputs ox oy of) = min (min (length ox) (length oy)) (length of)

-- the documents' values: the number, and the points written
pub record PutReport : Type 0 where
  pub number : ℕ
  pub points : ℕ

abbrev pub put_refusing : Refusal → PutReport
put_refusing k = record { number = Number.number_of k; points = 0 }

abbrev pub putting : ℕ → PutReport
putting n = record { number = 0; points = n }

abbrev pub put_report : Result ℕ Refusal → PutReport
put_report (Err k) = put_refusing k
put_report (Ok n) = putting n

-- 1: the kept rows differ in length; 2: no point is kept; 3: more than 1,024 points with the drops; last 9: an output row is too short for them
abbrev pub judged_back : ℕ → ℕ → ℕ → ℕ → ℕ → Result Unit Refusal
judged_back x y n drops room =
    refuse UnevenRows (rows_differ x y n)
    (refuse NoPoint (no_point n) (refuse TooManyPoints (ltb 1024 (n + drops)) (refuse OutputTooShort (ltb room (n + drops)) (Ok tt))))

-- said by an answer, or by these values
module _ {A : Type 0} (refused : Refusal → A) (back : ℕ → A) where
  abbrev pub said_back : Result Unit Refusal → ℕ → A
  said_back (Err k) n = refused k
  said_back (Ok tt) n = back n

  abbrev pub back_of : Inputs → ℕ → ℕ → A
  back_of (inputs xs ys fs) drops room = said_back (judged_back (length xs) (length ys) (length fs) drops room) (length fs + drops)

abbrev pub unless_refused : Result Unit Refusal → ℕ → Result ℕ Refusal
unless_refused = said_back Err Ok

abbrev pub restored_of : Inputs → ℕ → ℕ → Result ℕ Refusal
restored_of = back_of Err Ok

abbrev pub put_values_of : Inputs → ℕ → ℕ → PutReport
put_values_of = back_of put_refusing putting

abbrev pub spots_for : Inputs → List (List ℕ) → List (List ℕ)
spots_for (inputs xs ys fs) list = spots_of (length fs) list

-- by where each point comes from
abbrev pub left_back : Result ℕ Refusal → Inputs → List (List ℕ) → Outputs → Outputs
left_back (Err k) i spots o = o
left_back (Ok n) i spots o = spots_into i spots o

-- the contract of an entry that puts so many drops back by these spots
pub record Restores (i : Inputs) (drops : ℕ) (spots : List (List ℕ)) (w : Both Outputs Outputs) (r : Result ℕ Refusal) : Type 0 where
  pub answer : r ≡ restored_of i drops (output_room w.entry)
  pub values : put_report r ≡ put_values_of i drops (output_room w.entry)
  pub left : w.exit ≡ left_back r i spots w.entry

abbrev pub PutPromise : Inputs → List (List ℕ) → Both Outputs Outputs → Result ℕ Refusal → Type 0
PutPromise i list w r = Restores i (length list) (spots_for i list) w r
