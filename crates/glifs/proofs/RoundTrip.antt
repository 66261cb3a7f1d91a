-- Rows that are written are read back. Assumes nothing.
use Prim.Native.Nat.{ℕ, zero, suc, ◌+◌, ◌-◌, ◌%◌, ◌≤◌, ◌<◌, min}
use native.Mathlib.Omega.{arith}
use mathlib.Core.Bool.{Bool, true, false, true≢false, false≢true}
use mathlib.Core.List.{List, [], ◌∷◌}
use mathlib.Core.Path.{◌≡◌, refl, sym, ap, subst, ◌∙◌}
use borrow.Author.Tests.{lt-ltb, le-ltb, ltb-true, ltb-false, eqb-true, eqb-false, leb-false}
use lib.Dec.{eqb, ltb, leb}
use lib.IntN.{ℤ, pos, negsuc}
use lib.ListN.{length, take, drop, get_or, set, replicate, length-replicate, length-drop}
use lib.Seq.{sets, sets-eq, take_at, paste, take-paste, take_all, length-take-le, get_or-take, get_or-drop}
use Rattle.refusals.specs.Refusals.{judged, off_neighbours}
use Rattle.refusals.specs.Accepted as Refusals
use Rattle.std.specs.Prelude.{Option, Some, None, Result, Ok, is_ok}
use Rattle.refusals.specs.declared.refusal.Refusal.{Refusal}
use Rattle.refusals.specs.declared.refusal.Refusal.TheVariants.{UnevenRows, NoPoint, TooLarge, OutputTooShort}
use Rattle.glyphs.specs.Glyphs.{stretch}
use Rattle.gliftext.specs.Pick.{pick, both, either, more, most, sum}
use Rattle.glif.specs.Outline.{nowhere}
use Rattle.glif.specs.Scan as Scan
use Rattle.glif.specs.declared.scan.Totals.{Totals}
use Rattle.glifread.specs.Enter.{no_place, rows, filled, enter_all}
use Rattle.glifread.specs.Reads.{refusal, Rooms, rooms, refusal_in, answer_by, enters_by}
use Rattle.glifread.specs.Entry.{judged_in}
use Rattle.glifwrite.specs.Puts.{Putting, put, put_byte}
use Rattle.glifwrite.specs.Contours.{is_on, end_at, start_of, empty_to, some_empty, even, rows_refused}
use Rattle.glifwrite.specs.Writes.{GivenRows, given, place_in, row_in, file_in, refused_by, size_of, answer_as, write_all}
use Rattle.glifwrite.specs.Writes.{left_in, answer_of}
use Rattle.glifwrite.specs.Writes as Writes
use Rattle.glifwrite.specs.Worked as Worked
use Rattle.glifwrite.specs.Outside.{parts_of, put_parts}
use Rattle.glifwrite.proofs.Outside.{outside_is_kept}
use Rattle.gliftext.proofs.Picks.{both_true, both_is, or_left, or-false}
use Rattle.glifwrite.specs.Texts.{put_text, written, Small}
use Rattle.glyf.specs.Layout.{done}
use Rattle.glifs.specs.Glifs.{found_by, read_of}
use Rattle.glifs.specs.Back.{LetThrough, bytes_in, left_at_front, RowsReadBack}
use Rattle.glifs.proofs.Contour.{Plain, plain_sound, plain_round}
use Rattle.glifs.proofs.Whole.{start_next, start_first, full_at, too_far, row_to}
use Rattle.glifs.proofs.Written.{passed, first_none, reads_written, puts_written}
use Rattle.glifs.proofs.Entered.{end_at_lem, ordered, enters_all}

-- ---- a text in a row

more_least : (a : ℕ) → a ≤ most → more a ≡ min (suc a) most
unfolding more pick
more_least a h = by (ltb a 18446744073709551615) refl
  where
    by : (t : Bool) → ltb a 18446744073709551615 ≡ t → pick t (a + 1) a ≡ min (suc a) 18446744073709551615
    by true e = omega (arith, ltb-true a 18446744073709551615 e)
    by false e = omega (arith, ltb-false a 18446744073709551615 e)

text_place : (t : List ℕ) (at : ℕ) (out : List ℕ) → at ≤ most → place_in (put_text t (put at out)) ≡ min (at + length t) most
unfolding put_text put_byte
text_place [] at out h = omega arith
text_place (b ∷ t) at out h = text_place t (more at) (set out at b) (omega (arith, more_least at h)) ∙ omega (arith, more_least at h)

text_row : (t : List ℕ) (at : ℕ) (out : List ℕ) → at + length t ≤ most → row_in (put_text t (put at out)) ≡ sets out at t
unfolding put_text put_byte
text_row [] at out h = refl
text_row (b ∷ t) at out h =
    let one : more at ≡ suc at = more_least at (omega arith) ∙ omega arith in
    ap (λ (v : ℕ). row_in (put_text t (put v (set out at b)))) one ∙ text_row t (suc at) (set out at b) (omega arith)

text_front : (t out : List ℕ) → length t ≤ length out → take (length t) (sets out 0 t) ≡ t
text_front t out h = rw (sets-eq t out 0 (omega arith)) (take_at t (drop (0 + length t) out) (length t) refl)

-- ---- rows that belong to a file

pub record Belong (f : Totals) (ends : List ℕ) (nx ny nf : ℕ) : Type 0 where
  pub passes : f.refusal ≡ None
  pub same_x : nx ≡ nf
  pub same_y : ny ≡ nf
  pub many : f.contours ≡ length ends
  pub some : (k : ℕ) → k < length ends → start_of ends k < end_at ends k
  pub all : start_of ends (length ends) ≡ nf

then_none : (t : Bool) (x : Option Refusal) → pick t x (Some UnevenRows) ≡ None → (t ≡ true) × (x ≡ None)
unfolding pick
then_none true x e = (refl, e)
then_none false x e = absurd (let z : ◌≡◌ {A = ℕ} 0 1 = cc in omega arith)

none_empty : (ends : List ℕ) (n k : ℕ) → empty_to ends n ≡ false → k < n → start_of ends k < end_at ends k
unfolding empty_to
none_empty ends zero k e h = absurd (omega arith)
none_empty ends (suc n) k e h =
    let p = or-false (empty_to ends n) (leb (end_at ends n) (start_of ends n)) e in
    by (eqb k n) refl (leb-false (end_at ends n) (start_of ends n) p.1) (λ g. none_empty ends n k p.0 g)
  where
    by : (t : Bool) → eqb k n ≡ t → start_of ends n < end_at ends n → (k < n → start_of ends k < end_at ends k) → start_of ends k < end_at ends k
    by true g here before = rw (eqb-true k n g) here
    by false g here before = let other = eqb-false k n g in before (omega arith)

past_end : (ends : List ℕ) (k : ℕ) → length ends ≤ k → end_at ends k ≡ 0
unfolding end_at pick
past_end ends k h = rw (le-ltb k (length ends) h)

no_end : (ends : List ℕ) → length ends ≡ 0 → (k : ℕ) → end_at ends k ≡ 0
unfolding end_at pick
no_end ends e k = rw (e, le-ltb k 0 (omega arith))

last_end : (ends : List ℕ) (nx n : ℕ) → length ends ≡ n → either (eqb nx (end_at ends (n - 1))) (eqb nx 0) ≡ true → both (eqb nx 0) (ltb 0 n) ≡ false → start_of ends n ≡ nx
last_end ends nx zero e h g = start_first ends ∙ by (eqb nx 0) refl
  where
    by : (t : Bool) → eqb nx 0 ≡ t → 0 ≡ nx
    by true k = sym (eqb-true nx 0 k)
    by false k = sym (eqb-true nx (end_at ends (0 - 1)) (or_left (eqb nx (end_at ends (0 - 1))) (eqb nx 0) h k) ∙ no_end ends e (0 - 1))
last_end ends nx (suc n) e h g =
    let one : suc n - 1 ≡ n = omega arith in
    start_next ends n ∙ sym (eqb-true nx (end_at ends (suc n - 1)) (or_left (eqb nx (end_at ends (suc n - 1))) (eqb nx 0) h (by (eqb nx 0) refl)) ∙ ap (end_at ends) one)
  where
    by : (t : Bool) → eqb nx 0 ≡ t → eqb nx 0 ≡ false
    by true k = absurd (true≢false (sym (both_is (eqb nx 0) (ltb 0 (suc n)) k (lt-ltb 0 (suc n) (omega arith))) ∙ g))
    by false k = k

belong : (f : Totals) (ends : List ℕ) (nx ny nf : ℕ) → rows_refused f.refusal f.contours ends nx ny nf ≡ None → Belong f ends nx ny nf
unfolding rows_refused even some_empty
belong f ends nx ny nf e =
    let a = first_none f.refusal _ e in
    let b = then_none _ _ a.1 in
    let c = or-false _ _ (passed NoPoint _ None b.1).0 in
    let d = both_true _ _ b.0 in
    let p = both_true _ _ d.0 in
    let q = both_true _ _ d.1 in
    let xy : nx ≡ ny = eqb-true nx ny p.0 in
    let xf : nx ≡ nf = eqb-true nx nf p.1 in
    let count : length ends ≡ f.contours = eqb-true (length ends) f.contours q.1 in
    record {
      passes = a.0;
      same_x = xf;
      same_y = omega arith;
      many = sym count;
      some = λ k h. none_empty ends (length ends) k c.0 h;
      all = last_end ends nx (length ends) refl q.0 c.1 ∙ xf;
    }

-- ---- contours that 1 to 5 let through

stretch_at : (from end j : ℕ) (fs : List ℕ) → j < end - from → get_or (stretch from end fs) j 0 ≡ get_or fs (from + j) 0
stretch_at from end j fs h = get_or-take (end - from) (drop from fs) j 0 h ∙ get_or-drop from fs j 0

stretch_long : (from end : ℕ) (fs : List ℕ) → end ≤ length fs → length (stretch from end fs) ≡ end - from
stretch_long from end fs h = length-take-le (end - from) (drop from fs) (omega (arith, length-drop from fs))

plain_of : (xs ys : List ℤ) (fs : List ℕ) (from end : ℕ) → from < end → end ≤ length fs → judged (stretch from end xs) (stretch from end ys) (stretch from end fs) ≡ Ok tt → Plain fs from end
unfolding is_on
plain_of xs ys fs from end some inside fine =
    let a = Refusals.accepted (stretch from end xs) (stretch from end ys) (stretch from end fs) fine in
    let zero-at : from + 0 ≡ from = omega arith in
    record {
      some = some;
      first =
          sym (ap (λ (v : ℕ). eqb (v % 2) 1) (stretch_at from end 0 fs (omega arith) ∙ ap (λ (v : ℕ). get_or fs v 0) zero-at)) ∙ a.first;
      apart = λ j low high off.
          let here : from + (j - from) ≡ j = omega arith in
          let next : from + suc (j - from) ≡ suc j = omega arith in
          sym (ap (λ (v : ℕ). eqb (v % 2) 1) (stretch_at from end (suc (j - from)) fs (omega arith) ∙ ap (λ (v : ℕ). get_or fs v 0) next))
          ∙ Refusals.next_on (stretch from end fs) (j - from) a.apart (omega (arith, stretch_long from end fs inside))
          (ap (λ (v : ℕ). eqb (v % 2) 1) (stretch_at from end (j - from) fs (omega arith) ∙ ap (λ (v : ℕ). get_or fs v 0) here) ∙ off);
    }

-- ---- the whole

module _ (bs ends : List ℕ) (xs ys : List ℤ) (fs out : List ℕ) (few : length bs ≤ most) (room : length out < most) where
  abbrev g : GivenRows
  g = given ends xs ys fs

  module _ (answered : Writes.refusal_in bs g (length out) ≡ None) where
    refused_none : refused_by (file_in bs) g ≡ None
    unfolding Writes.refusal_of
    refused_none = (first_none (refused_by (file_in bs) g) _ answered).0

    pub belongs : Belong (file_in bs) ends (length xs) (length ys) (length fs)
    belongs = belong (file_in bs) ends (length xs) (length ys) (length fs) refused_none

    inside : (k : ℕ) → k < length ends → end_at ends k ≤ length fs
    inside k h = omega (arith, belongs.all, ordered ends belongs.some (length ends) k h (omega arith))

    -- rows of 16 bits, whatever contours they hold
    module _ (sx : Small xs) (sy : Small ys) (wide : (k : ℕ) → get_or ends k 0 < 65536) where
      pub short : (k : ℕ) → end_at ends k ≤ 65536
      short k = by (ltb k (length ends)) refl
        where
          by : (t : Bool) → ltb k (length ends) ≡ t → end_at ends k ≤ 65536
          by true e = omega (arith, end_at_lem ends k (ltb-true k (length ends) e) (wide k), wide k)
          by false e = omega (arith, past_end ends k (ltb-false k (length ends) e))

      abbrev ws : List ℕ
      ws = written bs g

      puts : (q : Putting) → put_parts bs g (parts_of bs (length bs)) q ≡ put_text ws q
      puts = puts_written bs few belongs.passes ends xs ys fs sx sy short

      all_put : (row : List ℕ) → write_all bs g (length bs) row ≡ put_text ws (put 0 row)
      all_put row = outside_is_kept bs g (length bs) row ∙ puts (put 0 row)

      size_is : size_of bs g (refused_by (file_in bs) g) ≡ min (length ws) most
      unfolding pick
      size_is = rw refused_none (ap place_in (all_put (replicate 1 0)) ∙ text_place ws 0 (replicate 1 0) (omega arith) ∙ zero_more)
        where
          zero_more : min (0 + length ws) most ≡ min (length ws) most
          zero_more = omega arith

      size_fits : size_of bs g (refused_by (file_in bs) g) ≤ length out
      unfolding Writes.refusal_of
      size_fits = ltb-false (length out) _ (passed OutputTooShort _ None (first_none (refused_by (file_in bs) g) _ answered).1).0

      fits : length ws ≤ length out
      fits = omega (arith, size_is, size_fits)

      size_all : size_of bs g (refused_by (file_in bs) g) ≡ length ws
      size_all = omega (arith, size_is, size_fits)

      pub bytes_are : bytes_in (answer_of bs g (length out)) ≡ length ws
      bytes_are = rw answered size_all

      pub row_holds : take (bytes_in (answer_of bs g (length out))) (left_in bs g (length out) out) ≡ ws
      unfolding pick
      row_holds =
          ap (λ (v : ℕ). take v (left_in bs g (length out) out)) bytes_are
          ∙ ap (take (length ws)) (rw answered (ap row_in (all_put out) ∙ text_row ws 0 out (omega (arith, fits))))
          ∙ text_front ws out fits

    -- what is read of it, where 1 to 5 let the contours through, into rows that suffice
    module _ (through : LetThrough ends xs ys fs) where
      plain : (k : ℕ) → k < length ends → Plain fs (start_of ends k) (end_at ends k)
      plain k h = plain_of xs ys fs (start_of ends k) (end_at ends k) (belongs.some k h) (inside k h) (through.fine k h)

      low : (k : ℕ) → end_at ends k ≤ 65536
      low = short through.small_x through.small_y through.wide

      module _ (E : List ℕ) (X Y : List ℤ) (F : List ℕ) (m : ℕ) (room-e : length ends ≤ length E) (room-x : length fs ≤ length X) (room-y : length fs ≤ length Y) (room-f : length fs ≤ length F)
          (room-m : length fs ≤ m) (few_x : length X ≤ nowhere) (few_y : length Y ≤ nowhere) (few-f : length F ≤ nowhere) (few-m : m ≤ nowhere) where
        abbrev rs : Rooms
        rs = rooms (length E) (length X) (length Y) (length F) m

        abbrev row : List (List ℕ)
        row = replicate m no_place

        abbrev found : Totals
        found = record { refusal = None; contours = length ends; points = start_of ends (length ends); full = start_of ends (length ends) }

        full_is : (k : ℕ) → k ≤ length ends → full_at ends fs k ≡ start_of ends k
        unfolding full_at
        full_is zero h = sym (start_first ends)
        full_is (suc k) h =
            let some = belongs.some k h in
            let all : start_of ends k + (end_at ends k - start_of ends k) ≡ start_of ends (suc k) = omega (arith, start_next ends k) in
            (λ i. full_is k (omega arith) i + plain_round (plain k h) i) ∙ all

        start_short : (k : ℕ) → start_of ends k ≤ 65536
        start_short zero = omega (arith, start_first ends)
        start_short (suc k) = omega (arith, start_next ends k, low k)

        not_late : too_far ends fs (length ends) ≡ false
        not_late = ap (ltb 65536) (full_is (length ends) (omega arith)) ∙ le-ltb 65536 (start_of ends (length ends)) (start_short (length ends))

        abbrev ps : List (List ℕ)
        ps = row_to bs ends xs ys fs row (length ends)

        refusal_is : pick (too_far ends fs (length ends)) (Some TooLarge) None ≡ None
        unfolding pick
        refusal_is = rw not_late

        judged_is : judged_in (written bs g) rs ≡ Scan.judged found ps
        judged_is =
            reads_written bs few belongs.passes ends xs ys fs through.small_x through.small_y low belongs.many (λ k h. plain_sound (plain k h)) row
            (omega (arith, length-replicate m no_place))
            ∙ (λ i. Scan.judged (record { refusal = refusal_is i; contours = length ends; points = start_of ends (length ends); full = full_is (length ends) (omega arith) i }) ps)

        none_refused : refusal_in found rs ≡ None
        unfolding refusal pick
        none_refused =
            rw (
              le-ltb (length E) (length ends) room-e,
              le-ltb m (start_of ends (length ends)) (omega (arith, belongs.all)),
              le-ltb (length X) (start_of ends (length ends)) (omega (arith, belongs.all)),
              le-ltb (length Y) (start_of ends (length ends)) (omega (arith, belongs.all)),
              le-ltb (length F) (start_of ends (length ends)) (omega (arith, belongs.all)),
            )

        pub report_is : answer_by (judged_in (written bs g) rs) rs ≡ Ok (record { contours = length ends; points = length fs })
        report_is = rw (judged_is, none_refused) (λ i. Ok (record { contours = length ends; points = belongs.all i }))

        pub rows_are : enters_by (judged_in (written bs g) rs) rs (filled E (rows X Y F)) ≡ filled (paste E 0 ends (length ends)) (rows (paste X 0 xs (length fs)) (paste Y 0 ys (length fs)) (paste F 0 fs (length fs)))
        unfolding pick
        rows_are =
            rw (judged_is, none_refused)
            (ap (λ (k : ℕ). enter_all ps k (length ends) (filled E (rows X Y F))) belongs.all
            ∙ enters_all xs ys fs through.small_x through.small_y through.bits X Y F (omega (arith, belongs.same_x)) (omega (arith, belongs.same_y)) room-f few_x few_y few-f belongs.same_x belongs.same_y
            bs ends E row plain through.wide belongs.all (omega (arith, length-replicate m no_place)) room-e)

-- ---- in the words of the statement

none_of : (o : Option Refusal) (size : ℕ) → is_ok (answer_as o size) ≡ true → o ≡ None
none_of (Some k) size e = absurd (false≢true e)
none_of None size e = refl

pub answered_none : (bs ends : List ℕ) (xs ys : List ℤ) (fs : List ℕ) (room : ℕ) → is_ok (answer_of bs (given ends xs ys fs) room) ≡ true →
    Writes.refusal_in bs (given ends xs ys fs) room ≡ None
answered_none bs ends xs ys fs room e = none_of (Writes.refusal_in bs (given ends xs ys fs) room) _ e

-- the front of a row that was filled
front : {A : Type 0} (row s : List A) (n : ℕ) → length s ≡ n → n ≤ length row → take n (paste row 0 s n) ≡ s
front row s n e h =
    let zero_more : 0 + n ≡ n = omega arith in
    subst (λ (k : ℕ). take k (paste row 0 s n) ≡ take n s) zero_more (take-paste row 0 s n (omega arith) (omega arith)) ∙ take_all n s (omega arith)

pub rows_read_back : RowsReadBack
rows_read_back bytes ends xs ys fs out (rooms e x y f m) few room answer through suffices =
    let g = given ends xs ys fs in
    let answered = answered_none bytes ends xs ys fs (length out) answer in
    let belong = belongs bytes ends xs ys fs out few room answered in
    let ws = written bytes g in
    let E : List ℕ = replicate e 0 in
    let X : List ℤ = replicate x (pos 0) in
    let Y : List ℤ = replicate y (pos 0) in
    let F : List ℕ = replicate f 0 in
    let le : length E ≡ e = length-replicate e 0 in
    let lx : length X ≡ x = length-replicate x (pos 0) in
    let ly : length Y ≡ y = length-replicate y (pos 0) in
    let lf : length F ≡ f = length-replicate f 0 in
    let in_rows = suffices.in_rows in
    let same_x = belong.same_x in
    let same_y = belong.same_y in
    let room-e : length ends ≤ length E = omega (arith, in_rows.in_ends) in
    let room-x : length fs ≤ length X = omega (arith, in_rows.in_xs) in
    let room-y : length fs ≤ length Y = omega (arith, in_rows.in_ys) in
    let room-f : length fs ≤ length F = omega (arith, in_rows.in_flags) in
    let room-m : length fs ≤ m = omega (arith, suffices.in_marks) in
    let few_x : length X ≤ nowhere = omega (arith, suffices.few_x) in
    let few_y : length Y ≤ nowhere = omega (arith, suffices.few_y) in
    let few-f : length F ≤ nowhere = omega (arith, suffices.few_flags) in
    let rs : rooms e x y f m ≡ rooms (length E) (length X) (length Y) (length F) m = λ i. rooms (sym le i) (sym lx i) (sym ly i) (sym lf i) m in
    let report = ap (λ (r : Rooms). answer_by (judged_in ws r) r) rs
    ∙ report_is bytes ends xs ys fs out few room answered through E X Y F m room-e room-x room-y room-f room-m few_x few_y few-f suffices.few_marks in
    let entered = ap (λ (r : Rooms). enters_by (judged_in ws r) r (filled E (rows X Y F))) rs
    ∙ rows_are bytes ends xs ys fs out few room answered through E X Y F m room-e room-x room-y room-f room-m few_x few_y few-f suffices.few_marks in
    ap (read_of (rooms e x y f m)) (row_holds bytes ends xs ys fs out few room answered through.small_x through.small_y through.wide)
    ∙ (λ i. found_by (report i) (entered i))
    ∙ (λ i. done (given (front E ends (length ends) refl room-e i) (front X xs (length fs) same_x room-x i) (front Y ys (length fs) same_y room-y i) (front F fs (length fs) refl room-f i)))

-- ---- an example: the file and the points of glifwrite/specs/Worked

points_through : LetThrough (1 ∷ []) (pos 1 ∷ pos 3 ∷ []) (negsuc 19 ∷ pos 40 ∷ []) (1 ∷ 0 ∷ [])
unfolding judged off_neighbours start_of end_at sum pick
points_through = record { fine = fine; bits = bits; small_x = small_x; small_y = small_y; wide = wide }
  where
    fine : (k : ℕ) → k < 1 →
        judged (stretch (start_of (1 ∷ []) k) (end_at (1 ∷ []) k) (pos 1 ∷ pos 3 ∷ [])) (stretch (start_of (1 ∷ []) k) (end_at (1 ∷ []) k) (negsuc 19 ∷ pos 40 ∷ []))
        (stretch (start_of (1 ∷ []) k) (end_at (1 ∷ []) k) (1 ∷ 0 ∷ [])) ≡ Ok tt
    fine zero h = refl
    fine (suc k) h = absurd (omega arith)

    bits : (i : ℕ) → get_or (1 ∷ 0 ∷ []) i 0 < 2
    bits zero = omega arith
    bits (suc zero) = omega arith
    bits (suc (suc i)) = omega arith

    small_x : Small (pos 1 ∷ pos 3 ∷ [])
    small_x zero = omega arith
    small_x (suc zero) = omega arith
    small_x (suc (suc i)) = omega arith

    small_y : Small (negsuc 19 ∷ pos 40 ∷ [])
    small_y zero = omega arith
    small_y (suc zero) = omega arith
    small_y (suc (suc i)) = omega arith

    wide : (k : ℕ) → get_or (1 ∷ []) k 0 < 65536
    wide zero = omega arith
    wide (suc k) = omega arith

pub reads_points : read_of (rooms 1 2 2 2 2) (left_at_front Worked.file Worked.points (replicate 110 0)) ≡ done Worked.points
reads_points =
    rows_read_back Worked.file (1 ∷ []) (pos 1 ∷ pos 3 ∷ []) (negsuc 19 ∷ pos 40 ∷ []) (1 ∷ 0 ∷ []) (replicate 110 0) (rooms 1 2 2 2 2) (omega arith) (omega arith)
    (ap (λ (r : Result ℕ Refusal). is_ok r) Worked.reports_bytes) points_through
    (record {
      in_rows = record { in_ends = omega arith; in_xs = omega arith; in_ys = omega arith; in_flags = omega arith };
      in_marks = omega arith;
      few_x = omega arith;
      few_y = omega arith;
      few_flags = omega arith;
      few_marks = omega arith;
    })
