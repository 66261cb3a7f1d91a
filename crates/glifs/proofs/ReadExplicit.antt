-- Rows in which each contour has an on-curve point, written into a file and read. Assumes nothing.
use Prim.Native.Nat.{ℕ, zero, suc, ◌+◌, ◌-◌, ◌≤◌, ◌<◌}
use native.Mathlib.Omega.{arith}
use mathlib.Core.Bool.{Bool, true, false}
use mathlib.Core.List.{List}
use mathlib.Core.Path.{◌≡◌, refl, sym, ap, subst, ◌∙◌}
use borrow.Author.Tests.{le-ltb, ltb-true, ltb-false}
use lib.Dec.{ltb}
use Rattle.std.specs.Prelude.{Option, Some, None, Ok, is_ok}
use Rattle.std.specs.Option.{option_or}
use Rattle.refusals.specs.Number.{number_of}
use Rattle.refusals.specs.declared.refusal.Refusal.{Refusal}
use Rattle.refusals.specs.declared.refusal.Refusal.TheVariants.{TooLarge, Malformed, CubicOrOpen, NoOnCurve}
use lib.IntN.{ℤ, pos}
use lib.ListN.{length, take, replicate, length-map, length-replicate}
use Rattle.contour.specs.Points.{Points}
use Rattle.contour.specs.Output.{column, flags, front}
use Rattle.contour.specs.Output as Output
use Rattle.contour.specs.Implied.{number}
use Rattle.contour.specs.Laws.{front_first}
use Rattle.glyphs.specs.Glyphs.{together, ends_from}
use Rattle.gliftext.specs.Pick.{pick, most}
use Rattle.glif.specs.Outline.{nowhere}
use Rattle.glif.specs.Scan as Scan
use Rattle.glif.specs.declared.scan.Totals.{Totals}
use Rattle.glifread.specs.Enter.{no_place, rows, Filled, filled, enter_all}
use Rattle.glifread.specs.Reads.{nine, refusal, Rooms, rooms, refusal_in, answer_of, answer_by, enters_by}
use Rattle.glifread.specs.Entry.{judged_in}
use Rattle.glifwrite.specs.Contours.{is_on, end_at, start_of}
use Rattle.glifwrite.specs.Writes.{GivenRows, given, file_in}
use Rattle.glifwrite.specs.Texts.{written}
use Rattle.glyf.specs.Layout.{done, refused}
use Rattle.glifs.specs.Glifs.{given_of, found_by, read_of, zero_in}
use Rattle.glifs.specs.Back.{OnCurve, OnEach, explicit_each, explicit_count, bytes_in, NoFault, RowsReadExplicit, RowsReadWithoutFault}
use Rattle.glifs.proofs.Contour.{on_to, Sound}
use Rattle.glifs.proofs.Whole.{full_at, too_far, row_to}
use Rattle.glifs.proofs.Written.{reads_written}
use Rattle.glifs.proofs.Explicit.{Room, shown}
use Rattle.glifs.proofs.Again.{shown_to, shown_long, ends_long, listed, full_is, enters_explicit}
use Rattle.glifs.proofs.RoundTrip.{Belong, belongs, short, row_holds, answered_none}

-- ---- a contour with an on-curve point

on_to_lem : (fs : List ℕ) (from k j : ℕ) → j < k → is_on fs (from + j) ≡ true → on_to fs from k ≡ true
unfolding on_to pick
on_to_lem fs from zero j h on = absurd (omega arith)
on_to_lem fs from (suc zero) zero h on = let here : from + 0 ≡ from = omega arith in sym (ap (is_on fs) here) ∙ on
on_to_lem fs from (suc zero) (suc j) h on = absurd (omega arith)
on_to_lem fs from (suc (suc k)) j h on = by (ltb j (suc k)) refl (λ g. on_to_lem fs from (suc k) j g on)
  where
    either_true : (t : Bool) → pick t true true ≡ true
    either_true true = refl
    either_true false = refl

    by : (t : Bool) → ltb j (suc k) ≡ t → (j < suc k → on_to fs from (suc k) ≡ true) → pick (on_to fs from (suc k)) true (is_on fs (from + suc k)) ≡ true
    by true e before = rw (before (ltb-true j (suc k) e))
    by false e before =
        let above = ltb-false j (suc k) e in
        let last : j ≡ suc k = omega arith in
        rw (sym (ap (λ (v : ℕ). is_on fs (from + v)) last) ∙ on) (either_true (on_to fs from (suc k)))

sound_of : {fs : List ℕ} {from to : ℕ} → OnCurve fs from to → Sound fs from to
sound_of {fs} {from} {to} c =
    let low = c.low in
    let high = c.high in
    let here : from + (c.at - from) ≡ c.at = omega arith in
    record { some = omega arith; on = on_to_lem fs from (to - from) (c.at - from) (omega arith) (ap (is_on fs) here ∙ c.on) }

-- ---- numbers of refusals

abbrev number_or : Option Refusal → ℕ
number_or None = 0
number_or (Some k) = number_of k

pick_small : (t : Bool) (a b : Option Refusal) → number_or a < 19 → number_or b < 19 → number_or (pick t a b) < 19
unfolding pick
pick_small true a b h l = h
pick_small false a b h l = l

or_small : (a b : Option Refusal) → number_or a < 19 → number_or b < 19 → number_or (option_or a b) < 19
or_small (Some k) b h l = h
or_small None b h l = l

refused_is : (f : Totals) (o : Option Refusal) (e : Filled) (k : Refusal) → found_by (answer_of f o) e ≡ refused k → number_or o ≡ number_of k
refused_is f (Some j) e k h = let same : j ≡ k = cc in ap number_of same
refused_is f None e k h = absurd (let z : ◌≡◌ {A = ℕ} 0 1 = cc in omega arith)

-- ---- what is read of the file

module _ (bs ends : List ℕ) (xs ys : List ℤ) (fs out : List ℕ) (few : length bs ≤ most) (room : length out < most)
    (answer : is_ok (Rattle.glifwrite.specs.Writes.answer_of bs (given ends xs ys fs) (length out)) ≡ true) (on : OnEach ends xs ys fs) where
  abbrev g : GivenRows
  g = given ends xs ys fs

  abbrev ws : List ℕ
  ws = written bs g

  in_file : Belong (file_in bs) ends (length xs) (length ys) (length fs)
  in_file = belongs bs ends xs ys fs out few room (answered_none bs ends xs ys fs (length out) answer)

  low : (k : ℕ) → end_at ends k ≤ 65536
  low = short bs ends xs ys fs out few room (answered_none bs ends xs ys fs (length out) answer) on.small_x on.small_y on.wide

  at_front : take (bytes_in (Rattle.glifwrite.specs.Writes.answer_of bs g (length out))) (Rattle.glifwrite.specs.Writes.left_in bs g (length out) out) ≡ ws
  at_front = row_holds bs ends xs ys fs out few room (answered_none bs ends xs ys fs (length out) answer) on.small_x on.small_y on.wide

  sound : (k : ℕ) → k < length ends → Sound fs (start_of ends k) (end_at ends k)
  sound k h = sound_of (on.some k h)

  -- more points than the ends can tell
  abbrev late : Bool
  late = too_far ends fs (length ends)

  abbrev found : Totals
  found = record { refusal = pick late (Some TooLarge) None; contours = length ends; points = start_of ends (length ends); full = full_at ends fs (length ends) }

  abbrev laid : ℕ → List (List ℕ)
  laid m = row_to bs ends xs ys fs (replicate m no_place) (length ends)

  judged_is : (m : ℕ) → m ≤ nowhere → Scan.judged_of ws (replicate m no_place) ≡ Scan.judged found (laid m)
  judged_is m h =
      reads_written bs few in_file.passes ends xs ys fs on.small_x on.small_y low in_file.many sound (replicate m no_place) (omega (arith, length-replicate m no_place))

  -- ---- none of 19, 20, 21

  module _ (e x y f m : ℕ) (few-m : m ≤ most) where
    number_small : number_or (refusal_in found (rooms e x y f m)) < 19
    unfolding refusal
    number_small =
        or_small found.refusal _ (pick_small late (Some TooLarge) None (omega arith) (omega arith))
        (pick_small _ nine _ (omega arith) (pick_small _ nine _ (omega arith) (pick_small _ nine _ (omega arith) (pick_small _ nine _ (omega arith) (pick_small _ nine None (omega arith) (omega arith))))))

    not_above : (k : Refusal) → 19 ≤ number_of k → read_of (rooms e x y f m) ws ≡ refused k → ⊥
    not_above k h is =
        let rs : Rooms = rooms e x y f m in
        let entered : Filled = enters_by (judged_in ws rs) rs (zero_in rs) in
        let number_is = refused_is found (refusal_in found rs) entered k (sym (ap (λ (j : Scan.Judged). found_by (answer_by j rs) entered) (judged_is m few-m)) ∙ is) in
        omega (arith, number_small, number_is)

    no_fault : NoFault (read_of (rooms e x y f m) ws)
    no_fault = record { not_19 = not_above Malformed (omega arith); not_20 = not_above CubicOrOpen (omega arith); not_21 = not_above NoOnCurve (omega arith) }

  -- ---- the rows, with their implied points written out

  abbrev so : List Points
  so = shown_to ends xs ys fs (length ends)

  module _ (E : List ℕ) (X Y : List ℤ) (F : List ℕ) (m : ℕ) (room-e : length ends ≤ length E) (room-m : length fs ≤ m) (few_x : length X ≤ nowhere) (few_y : length Y ≤ nowhere)
      (few-f : length F ≤ nowhere) (few-m : m ≤ nowhere) where
    abbrev rs : Rooms
    rs = rooms (length E) (length X) (length Y) (length F) m

    room_row : length fs ≤ length (replicate m no_place)
    room_row = omega (arith, length-replicate m no_place)

    full_so : length (together so) ≡ full_at ends fs (length ends)
    full_so =
        full_is xs ys fs on.small_x on.small_y X Y F few_x few_y few-f in_file.same_x in_file.same_y bs ends E (replicate m no_place) sound low in_file.all room_row room-e (length ends) (omega arith)

    module _ (told : full_at ends fs (length ends) ≤ 65536) (places : Room X Y F (full_at ends fs (length ends))) where
      not_late : late ≡ false
      not_late = le-ltb 65536 (full_at ends fs (length ends)) told

      none_refused : refusal_in found rs ≡ None
      unfolding refusal pick
      none_refused =
          rw (
            not_late,
            le-ltb (length E) (length ends) room-e,
            le-ltb m (start_of ends (length ends)) (omega (arith, in_file.all)),
            le-ltb (length X) (full_at ends fs (length ends)) places.x,
            le-ltb (length Y) (full_at ends fs (length ends)) places.y,
            le-ltb (length F) (full_at ends fs (length ends)) places.f,
          )

      report_is : answer_by (judged_in ws rs) rs ≡ Ok (record { contours = length ends; points = full_at ends fs (length ends) })
      report_is = rw (judged_is m few-m, none_refused)

      rows_are : enters_by (judged_in ws rs) rs (filled E (rows X Y F)) ≡ filled (front (ends_from 0 so) E) (shown X Y F (together so))
      unfolding pick
      rows_are =
          rw (judged_is m few-m, none_refused)
          (ap (λ (k : ℕ). enter_all (laid m) k (length ends) (filled E (rows X Y F))) in_file.all
          ∙ enters_explicit xs ys fs on.small_x on.small_y X Y F few_x few_y few-f in_file.same_x in_file.same_y bs ends E (replicate m no_place) sound low in_file.all room_row room-e told places)

      found_is : found_by (answer_by (judged_in ws rs) rs) (enters_by (judged_in ws rs) rs (filled E (rows X Y F))) ≡ done (given_of so)
      found_is =
          let n = full_at ends fs (length ends) in
          let count = ends_long 0 so ∙ shown_long ends xs ys fs (length ends) in
          let ps = together so in
          (λ i. found_by (report_is i) (rows_are i))
          ∙ (λ i. done (given (front_first (length ends) (ends_from 0 so) E count i)
          (front_first n (column 0 ps) X (length-map ps (λ (p : List ℤ). number p 0) ∙ full_so) i)
          (front_first n (column 1 ps) Y (length-map ps (λ (p : List ℤ). number p 1) ∙ full_so) i)
          (front_first n (flags ps) F (length-map ps Output.flag_of ∙ full_so) i)))

pub rows_read_without_fault : RowsReadWithoutFault
rows_read_without_fault bytes ends xs ys fs out (rooms e x y f m) few room answer on marks =
    subst (λ (l : List ℕ). NoFault (read_of (rooms e x y f m) l)) (sym (at_front bytes ends xs ys fs out few room answer on)) (no_fault bytes ends xs ys fs out few room answer on e x y f m marks)

pub rows_read_explicit : RowsReadExplicit
rows_read_explicit bytes ends xs ys fs out (rooms e x y f m) few room answer on told suffices =
    let E : List ℕ = replicate e 0 in
    let X : List ℤ = replicate x (pos 0) in
    let Y : List ℤ = replicate y (pos 0) in
    let F : List ℕ = replicate f 0 in
    let le : length E ≡ e = length-replicate e 0 in
    let lx : length X ≡ x = length-replicate x (pos 0) in
    let ly : length Y ≡ y = length-replicate y (pos 0) in
    let lf : length F ≡ f = length-replicate f 0 in
    let in_rows = suffices.in_rows in
    let same = in_file bytes ends xs ys fs out few room answer on in
    let are : shown_to ends xs ys fs (length ends) ≡ explicit_each (given ends xs ys fs) = listed ends xs ys fs on.wide in
    let room-e : length ends ≤ length E = omega (arith, in_rows.in_ends) in
    let room-m : length fs ≤ m = omega (arith, suffices.in_marks, same.same_x) in
    let few_x : length X ≤ nowhere = omega (arith, suffices.few_x) in
    let few_y : length Y ≤ nowhere = omega (arith, suffices.few_y) in
    let few-f : length F ≤ nowhere = omega (arith, suffices.few_flags) in
    let total : full_at ends fs (length ends) ≡ explicit_count (given ends xs ys fs) =
    sym (full_so bytes ends xs ys fs out few room answer on E X Y F m room-e room-m few_x few_y few-f suffices.few_marks) ∙ ap (λ (l : List Points). length (together l)) are in
    let few-told : full_at ends fs (length ends) ≤ 65536 = omega (arith, total, told) in
    let places : Room X Y F (full_at ends fs (length ends)) = record {
      x = omega (arith, total, in_rows.in_xs);
      y = omega (arith, total, in_rows.in_ys);
      f = omega (arith, total, in_rows.in_flags);
    } in
    ap (read_of (rooms e x y f m)) (at_front bytes ends xs ys fs out few room answer on)
    ∙ (λ i. found_by (answer_by (judged_in (written bytes (given ends xs ys fs)) (rooms (sym le i) (sym lx i) (sym ly i) (sym lf i) m)) (rooms (sym le i) (sym lx i) (sym ly i) (sym lf i) m))
    (enters_by (judged_in (written bytes (given ends xs ys fs)) (rooms (sym le i) (sym lx i) (sym ly i) (sym lf i) m)) (rooms (sym le i) (sym lx i) (sym ly i) (sym lf i) m) (filled E (rows X Y F))))
    ∙ found_is bytes ends xs ys fs out few room answer on E X Y F m room-e room-m few_x few_y few-f suffices.few_marks few-told places
    ∙ ap (λ (l : List Points). done (given_of l)) are
