-- The statement of `from_cubics` determines the answer and every lent row; and the answer and what is written are those of the contour and of
-- the lengths of the rows alone, whatever the rows held. Assumes nothing.
use Rattle.std.specs.Prelude.{ℕ, min, Bool, true, false, List, [], ◌≡◌, refl, ltb, ℤ, length, take, Result, Ok, Err}
use Rattle.std.proofs.Common.{sym, ap, ◌∙◌}
use Rattle.std.proofs.lemmas.List.{length-map}
use Rattle.contour.specs.Laws.{front_first}
use denote.Triple.Both.{Both}
use Rattle.refusals.specs.Refusals.{too_many}
use Rattle.refusals.specs.declared.refusal.Refusal.TheVariants.{TooManyPoints, OutputTooShort, Outside16Bits}
use Rattle.refusals.specs.declared.refusal.Refusal.{Refusal}
use Rattle.rows.specs.Lent.{Inputs}
use Rattle.contour.specs.Points.{Points}
use Rattle.contour.specs.Implied.{number}
use Rattle.contour.specs.Output.{Outputs, outputs, column, flag_of, flags}
use Rattle.cubics.specs.Replacing.{any_outside}
use Rattle.cubics.specs.Entry.{room_of, refuse_if, answer_in, after_judging, judged_of, points_of, left_by, Promise}

-- ---- two outcomes of one order are one

pub record Same {R : Type 0} (r r' : R) (w w' : Outputs) : Type 0 where
  pub answer : r ≡ r'
  pub left : w ≡ w'

pub determined : {i : Inputs} {w w' : Both Outputs Outputs} {r r' : Result ℕ Refusal} → w.entry ≡ w'.entry → Promise i w r → Promise i w' r' →
    Same r r' w.exit w'.exit
determined {i} {w} {w'} {r} {r'} e p p' =
    let answer : r ≡ r' = p.answer ∙ rw e (sym p'.answer) in
    record { answer = answer; left = p.left ∙ rw (answer, e) (sym p'.left) }

-- ---- of the lent rows only their lengths count

pub record Places : Type 0 where
  pub x : ℕ
  pub y : ℕ
  pub flags : ℕ

abbrev pub places_of : Outputs → Places
places_of (outputs ox oy of) = record { x = length ox; y = length oy; flags = length of }

-- the places that an answer says are written
abbrev pub first_of : Result ℕ Refusal → Outputs → Outputs
first_of (Err k) w = outputs [] [] []
first_of (Ok n) (outputs ox oy of) = outputs (take n ox) (take n oy) (take n of)

-- what stands there: nothing where the contour is refused
abbrev pub shown : Result ℕ Refusal → Points → Outputs
shown (Err k) ps = outputs [] [] []
shown (Ok n) ps = outputs (column 0 ps) (column 1 ps) (flags ps)

same_rooms : (w w' : Outputs) → places_of w ≡ places_of w' → room_of w ≡ room_of w'
same_rooms (outputs ox oy of) (outputs ox' oy' of') e = ap (λ (p : Places). min (min p.x p.y) p.flags) e

-- what is counted is what there is
abbrev count_of : Result ℕ Refusal → ℕ → Type 0
count_of (Err k) a = Unit {0}
count_of (Ok n) a = n ≡ a

abbrev refused : Refusal → Bool → Result ℕ Refusal → Result ℕ Refusal
refused = refuse_if Err Ok

counted : (s t u : Bool) (a : ℕ) → count_of (refused TooManyPoints s (refused Outside16Bits t (refused OutputTooShort u (Ok a)))) a
counted true t u a = tt
counted false true u a = tt
counted false false true a = tt
counted false false false a = refl

count_whole : (j : Result Unit Refusal) (room : ℕ) (ps : Points) → count_of (after_judging j (answer_in room ps)) (length ps)
count_whole (Err k) room ps = tt
count_whole (Ok tt) room ps = counted (too_many (length ps)) (any_outside ps) (ltb room (length ps)) (length ps)

first_shown : (r : Result ℕ Refusal) (ps : Points) (w : Outputs) → count_of r (length ps) → first_of r (left_by r ps w) ≡ shown r ps
first_shown (Err k) ps w h = refl
first_shown (Ok n) ps (outputs ox oy of) h =
    rw (
      front_first n (column 0 ps) ox (length-map ps (λ (p : List ℤ). number p 0) ∙ sym h),
      front_first n (column 1 ps) oy (length-map ps (λ (p : List ℤ). number p 1) ∙ sym h),
      front_first n (flags ps) of (length-map ps flag_of ∙ sym h),
    )

promise_shows : {i : Inputs} {w : Both Outputs Outputs} {r : Result ℕ Refusal} → Promise i w r → first_of r w.exit ≡ shown r (points_of i)
promise_shows {i} {w} {r} p =
    let count : count_of r (length (points_of i)) = rw p.answer (count_whole (judged_of i) (room_of w.entry) (points_of i)) in
    rw p.left (first_shown r (points_of i) w.entry count)

-- two orders of one contour, in rows of equal lengths: the answer and what is written are equal
pub equal_orders : {i : Inputs} {w w' : Both Outputs Outputs} {r r' : Result ℕ Refusal} → places_of w.entry ≡ places_of w'.entry →
    Promise i w r →
    Promise i w' r' →
    Same r r' (first_of r w.exit) (first_of r' w'.exit)
equal_orders {i} {w} {w'} {r} {r'} e p p' =
    let answer : r ≡ r' = p.answer ∙ rw (same_rooms w.entry w'.entry e) (sym p'.answer) in
    record { answer = answer; left = promise_shows p ∙ rw answer (sym (promise_shows p')) }
