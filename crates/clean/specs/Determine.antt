-- The statement of an entry that drops points and lists them, as `clean_contour` is, determines the answer and every lent row; and the answer and
-- what is written are those of the contour and of the lengths of the rows alone, whatever the rows held. So it is of one that puts them back.
-- Assumes nothing.
use Rattle.std.specs.Prelude.{ℕ, zero, suc, min, ◌+◌, ◌-◌, Bool, true, false, List, [], ◌∷◌, map, ◌≡◌, refl, eqb, ltb, length, get_or, take, Result, Ok, Err}
use Rattle.std.proofs.Common.{arith, sym, ap, ◌∙◌, length-append}
use Rattle.std.proofs.lemmas.List.{length-map}
use Rattle.refusals.specs.declared.refusal.Refusal.TheVariants.{OutputTooShort, ListTooShort}
use Rattle.refusals.specs.declared.refusal.Refusal.{Refusal}
use Rattle.contour.specs.Laws.{front_first}
use denote.Triple.Both.{Both}
use Rattle.rows.specs.Lent.{Inputs, inputs}
use Rattle.contour.specs.Output.{Outputs, outputs}
use Rattle.clean.specs.Clean.{Cleaning, cleaned, up_from}
use Rattle.clean.specs.PutBack.{number_of, why_of, insert_at, put_in, put_back, copied_spot, kept_spot, spots_of}
use Rattle.clean.specs.Entry.{coordinate_in, bit_in, Rows, rows, point_room, list_room, refuse_if, answer_in, left_by}
use Rattle.clean.specs.Entry.{after_judging, judged_of, Sifts}
use Rattle.clean.specs.Entry.{spot_x, spot_bit, output_room, judged_back, unless_refused, restored_of, spots_for, left_back, Restores}
use Rattle.clean.specs.declared.Cleaned.{Cleaned}

-- ---- two outcomes of one order are one

pub record Same {R W : Type 0} (r r' : R) (w w' : W) : Type 0 where
  pub answer : r ≡ r'
  pub left : w ≡ w'

pub determined : {i : Inputs} {c : Cleaning} {w w' : Both Rows Rows} {r r' : Result Cleaned Refusal} → w.entry ≡ w'.entry →
    Sifts i c w r → Sifts i c w' r' → Same r r' w.exit w'.exit
determined {i} {c} {w} {w'} {r} {r'} e p p' =
    let answer : r ≡ r' = p.answer ∙ rw e (sym p'.answer) in
    record { answer = answer; left = p.left ∙ rw (answer, e) (sym p'.left) }

-- ---- of the lent rows only their lengths count

pub record Places : Type 0 where
  pub x : ℕ
  pub y : ℕ
  pub flags : ℕ
  pub list : ℕ

abbrev pub places_of : Rows → Places
places_of (rows (outputs ox oy of) list) = record { x = length ox; y = length oy; flags = length of; list = length list }

-- the places that an answer says are written
abbrev pub first_of : Result Cleaned Refusal → Rows → Rows
first_of (Err k) w = rows (outputs [] [] []) []
first_of (Ok c) (rows (outputs ox oy of) list) = rows (outputs (take c.kept ox) (take c.kept oy) (take c.kept of)) (take c.dropped list)

-- what stands there: nothing where the contour is refused
abbrev pub shown : Result Cleaned Refusal → Inputs → Cleaning → Rows
shown (Err k) i c = rows (outputs [] [] []) []
shown (Ok c) (inputs xs ys fs) (cleaned kept drops) =
    rows (outputs (map (coordinate_in xs) kept) (map (coordinate_in ys) kept) (map (bit_in fs) kept)) drops

same_rooms : (w w' : Rows) → places_of w ≡ places_of w' → (list_room w ≡ list_room w') × (point_room w ≡ point_room w')
same_rooms (rows (outputs ox oy of) list) (rows (outputs ox' oy' of') list') e =
    (ap (λ (p : Places). p.list) e, ap (λ (p : Places). min (min p.x p.y) p.flags) e)

-- what is counted is what there is
abbrev counts_of : Result Cleaned Refusal → ℕ → ℕ → Type 0
counts_of (Err k) a b = Unit {0}
counts_of (Ok c) a b = (c.kept ≡ a) × (c.dropped ≡ b)

abbrev refused : Refusal → Bool → Result Cleaned Refusal → Result Cleaned Refusal
refused = refuse_if Err (λ k d. Ok (record { kept = k; dropped = d }))

counted : (s t : Bool) (a b : ℕ) → counts_of (refused ListTooShort s (refused OutputTooShort t (Ok (record { kept = a; dropped = b })))) a b
counted true t a b = tt
counted false true a b = tt
counted false false a b = (refl, refl)

counts_whole : (j : Result Unit Refusal) (list points : ℕ) (kept : List ℕ) (drops : List (List ℕ)) →
    counts_of (after_judging j (answer_in list points (cleaned kept drops))) (length kept) (length drops)
counts_whole (Err k) list points kept drops = tt
counts_whole (Ok tt) list points kept drops = counted (ltb list (length drops)) (ltb points (length kept)) (length kept) (length drops)

first_shown : (r : Result Cleaned Refusal) (i : Inputs) (kept : List ℕ) (drops : List (List ℕ)) (w : Rows) → counts_of r (length kept) (length drops) →
    first_of r (left_by r i (cleaned kept drops) w) ≡ shown r i (cleaned kept drops)
first_shown (Err k) i kept drops w h = refl
first_shown (Ok c) (inputs xs ys fs) kept drops (rows (outputs ox oy of) list) h =
    rw (
      front_first c.kept (map (coordinate_in xs) kept) ox (length-map kept (coordinate_in xs) ∙ sym h.0),
      front_first c.kept (map (coordinate_in ys) kept) oy (length-map kept (coordinate_in ys) ∙ sym h.0),
      front_first c.kept (map (bit_in fs) kept) of (length-map kept (bit_in fs) ∙ sym h.0),
      front_first c.dropped drops list (sym h.1),
    )

promise_shows : {i : Inputs} {w : Both Rows Rows} {r : Result Cleaned Refusal} (c : Cleaning) → Sifts i c w r → first_of r w.exit ≡ shown r i c
promise_shows {i} {w} {r} (cleaned kept drops) p =
    let counts : counts_of r (length kept) (length drops) =
    rw p.answer (counts_whole (judged_of i) (list_room w.entry) (point_room w.entry) kept drops) in
    rw p.left (first_shown r i kept drops w.entry counts)

-- two orders of one contour, in rows of equal lengths: the answer and what is written are equal
pub equal_orders : {i : Inputs} {c : Cleaning} {w w' : Both Rows Rows} {r r' : Result Cleaned Refusal} → places_of w.entry ≡ places_of w'.entry →
    Sifts i c w r → Sifts i c w' r' →
    Same r r' (first_of r w.exit) (first_of r' w'.exit)
equal_orders {i} {c} {w} {w'} {r} {r'} e p p' =
    let rooms = same_rooms w.entry w'.entry e in
    let answer : r ≡ r' = p.answer ∙ rw (rooms.0, rooms.1) (sym p'.answer) in
    record { answer = answer; left = promise_shows c p ∙ rw answer (sym (promise_shows c p')) }

-- ---- putting back

pub put_determined : {i : Inputs} {drops : ℕ} {spots : List (List ℕ)} {w w' : Both Outputs Outputs} {r r' : Result ℕ Refusal} → w.entry ≡ w'.entry →
    Restores i drops spots w r → Restores i drops spots w' r' → Same r r' w.exit w'.exit
put_determined {i} {drops} {spots} {w} {w'} {r} {r'} e p p' =
    let answer : r ≡ r' = p.answer ∙ rw e (sym p'.answer) in
    record { answer = answer; left = p.left ∙ rw (answer, e) (sym p'.left) }

pub record PointPlaces : Type 0 where
  pub x : ℕ
  pub y : ℕ
  pub flags : ℕ

abbrev pub point_places : Outputs → PointPlaces
point_places (outputs ox oy of) = record { x = length ox; y = length oy; flags = length of }

abbrev pub first_points : Result ℕ Refusal → Outputs → Outputs
first_points (Err k) o = outputs [] [] []
first_points (Ok n) (outputs ox oy of) = outputs (take n ox) (take n oy) (take n of)

same_room : (o o' : Outputs) → point_places o ≡ point_places o' → output_room o ≡ output_room o'
same_room (outputs ox oy of) (outputs ox' oy' of') e = ap (λ (p : PointPlaces). min (min p.x p.y) p.flags) e

-- as many points come back as are kept and listed
length_insert : {A : Type 0} (k : ℕ) (v : A) (row : List A) → length (insert_at k v row) ≡ suc (length row)
unfolding insert_at
length_insert zero v row = refl
length_insert (suc k) v [] = refl
length_insert (suc k) v (p ∷ row) = ap suc (length_insert k v row)

length_in : {A : Type 0} (copied : ℕ → A → A) (past : A) (b : Bool) (place why : ℕ) (row : List A) →
    length (put_in copied past b place why row) ≡ suc (length row)
length_in copied past true place why row = length-append row (copied why (get_or row 0 past) ∷ []) ∙ omega arith
length_in copied past false place why row = length_insert place (copied why (get_or row (place - 1) past)) row

pub length_back : {A : Type 0} (copied : ℕ → A → A) (past : A) (j : ℕ) (list : List (List ℕ)) (row : List A) →
    length (put_back copied past j list row) ≡ length row + length list
unfolding put_back
length_back copied past j [] row = omega arith
length_back copied past j (d ∷ list) row =
    length_in copied past (eqb (why_of d) 3) (number_of d - j) (why_of d) (put_back copied past (j + 1) list row)
    ∙ ap suc (length_back copied past (j + 1) list row) ∙ omega arith

pub length_up : (k n : ℕ) → length (up_from k n) ≡ n
unfolding up_from
length_up k zero = refl
length_up k (suc n) = ap suc (length_up (k + 1) n)

length_spots : (n : ℕ) (list : List (List ℕ)) → length (spots_of n list) ≡ n + length list
unfolding spots_of
length_spots n list =
    length_back copied_spot (kept_spot n) 0 list (map kept_spot (up_from 0 n))
    ∙ ap (λ (k : ℕ). k + length list) (length-map (up_from 0 n) kept_spot ∙ length_up 0 n)

abbrev total_of : Result ℕ Refusal → ℕ → Type 0
total_of (Err k) n = Unit {0}
total_of (Ok m) n = m ≡ n

totals : (j : Result Unit Refusal) (n : ℕ) → total_of (unless_refused j n) n
totals (Err k) n = tt
totals (Ok tt) n = refl

first_points_lem : (r : Result ℕ Refusal) (i : Inputs) (spots : List (List ℕ)) (o o' : Outputs) → total_of r (length spots) →
    first_points r (left_back r i spots o) ≡ first_points r (left_back r i spots o')
first_points_lem (Err k) i spots o o' h = refl
first_points_lem (Ok n) (inputs xs ys fs) spots (outputs ox oy of) (outputs ox' oy' of') h =
    let x = length-map spots (spot_x xs) ∙ sym h in
    let y = length-map spots (spot_x ys) ∙ sym h in
    let f = length-map spots (spot_bit fs) ∙ sym h in
    rw (
      front_first n (map (spot_x xs) spots) ox x,
      front_first n (map (spot_x ys) spots) oy y,
      front_first n (map (spot_bit fs) spots) of f,
      front_first n (map (spot_x xs) spots) ox' x,
      front_first n (map (spot_x ys) spots) oy' y,
      front_first n (map (spot_bit fs) spots) of' f,
    )

-- as many spots as points are kept and put back
abbrev pub Counted : Inputs → ℕ → List (List ℕ) → Type 0
Counted (inputs xs ys fs) drops spots = length spots ≡ length fs + drops

total_of_lem : (i : Inputs) (drops : ℕ) (spots : List (List ℕ)) (room : ℕ) → Counted i drops spots → total_of (restored_of i drops room) (length spots)
total_of_lem (inputs xs ys fs) drops spots room e = rw e (totals (judged_back (length xs) (length ys) (length fs) drops room) (length fs + drops))

pub counted_back : (i : Inputs) (list : List (List ℕ)) → Counted i (length list) (spots_for i list)
counted_back (inputs xs ys fs) list = length_spots (length fs) list

-- two orders of the same points and spots, in rows of equal lengths
pub put_equal_orders : {i : Inputs} {drops : ℕ} {spots : List (List ℕ)} {w w' : Both Outputs Outputs} {r r' : Result ℕ Refusal} → Counted i drops spots →
    point_places w.entry ≡ point_places w'.entry →
    Restores i drops spots w r → Restores i drops spots w' r' → Same r r' (first_points r w.exit) (first_points r' w'.exit)
put_equal_orders {i} {drops} {spots} {w} {w'} {r} {r'} count e p p' =
    let answer : r ≡ r' = p.answer ∙ rw (same_room w.entry w'.entry e) (sym p'.answer) in
    let total : total_of r (length spots) = rw p.answer (total_of_lem i drops spots (output_room w.entry) count) in
    record { answer = answer; left = rw (p.left, p'.left, ← answer) (first_points_lem r i spots w.entry w'.entry total) }
