-- The rows that are read belong together: the ends rise, and the last of them says as many points as there are. Assumes nothing.
use Prim.Native.Nat.{ℕ, ◌≤◌}
use native.Mathlib.Omega.{arith}
use mathlib.Core.Bool.{Bool, true, false, ◌&&◌}
use mathlib.Core.List.{List}
use mathlib.Core.Path.{◌≡◌, refl, sym, ap, subst, ◌∙◌}
use borrow.Author.Tests.{ltb-false, eq-eqb}
use Rattle.std.specs.Prelude.{Option, Some, None, Ok}
use Rattle.refusals.specs.declared.refusal.Refusal.{Refusal}
use Rattle.refusals.specs.declared.refusal.Refusal.TheVariants.{OutputTooShort}
use lib.Dec.{eqb}
use lib.IntN.{ℤ, pos}
use lib.ListN.{length, take, replicate, length-replicate}
use lib.Seq.{length-take-le}
use Rattle.gliftext.specs.Pick.{pick}
use Rattle.glyf.proofs.Again.{done_is}
use Rattle.gliftext.specs.Utf8.{is_utf8}
use Rattle.glif.specs.Scan.{Pass, pass, Judged, judged, totals_of}
use Rattle.glif.proofs.Stems.{points_in}
use Rattle.glif.specs.declared.scan.Scan.{Scan}
use Rattle.glif.specs.declared.scan.Totals.{Totals}
use Rattle.glyf.specs.Layout.{done, count_of, rising}
use Rattle.glifread.specs.Enter.{no_place, Rows, rows, filled, entering, enter_up_to, at_end, enter_all, Filled}
use Rattle.glifread.specs.Reads.{refusal, Rooms, rooms, refusal_in, answer_of, answer_by, enters_by}
use Rattle.glifread.specs.Entry.{judged_in}
use Rattle.glifwrite.specs.Writes.{GivenRows, given, scan_in}
use Rattle.glifs.specs.Separately.{ReadBelongs}
use Rattle.glifs.specs.Glifs.{zero_in, first_of, found_by, read_of, belong}
use Rattle.glifs.proofs.Written.{Accepted, accepted, passed, first_none, judged_by_lem, found_refusal}
use Rattle.glifs.proofs.Laid.{wide_of, Laid, laid_least, laid_most, Entered, laid_enters}
use Rattle.glifs.proofs.Lying.{pass_at, tree_at, row_in, Unrefused, ground_at, all_lies}

-- ---- what is not refused

record Room (f : Totals) (ends xs ys flags points : ℕ) : Type 0 where
  passes : f.refusal ≡ None
  in_ends : f.contours ≤ ends
  in_points : f.points ≤ points
  in_xs : f.full ≤ xs

room_of : (f : Totals) (ends xs ys flags points : ℕ) → refusal f ends xs ys flags points ≡ None → Room f ends xs ys flags points
unfolding refusal
room_of f ends xs ys flags points e =
    let a = first_none f.refusal _ e in
    let b = passed OutputTooShort _ _ a.1 in
    let c = passed OutputTooShort _ _ b.1 in
    let d = passed OutputTooShort _ _ c.1 in
    record {
      passes = a.0;
      in_ends = ltb-false ends f.contours b.0;
      in_points = ltb-false points f.points c.0;
      in_xs = ltb-false xs f.full d.0;
    }

both_and : (a b : Bool) → a ≡ true → b ≡ true → (a && b) ≡ true
both_and a b e h = rw (e, h)

found_sums : (s : Scan) (u : Bool) → ((totals_of s u).contours ≡ s.sum.contours) × ((totals_of s u).points ≡ s.sum.points) × ((totals_of s u).full ≡ s.sum.full)
unfolding totals_of
found_sums s u = (refl, refl, refl)

rows_same : (bs : List ℕ) (p : Pass) → points_in bs p ≡ row_in p
rows_same bs (pass s names points) = refl

taken_wide : (k : ℕ) (r : Rows) → k ≤ wide_of r → (ends : List ℕ) (c : ℕ) → {gends : List ℕ} {gxs gys : List ℤ} {gfs : List ℕ} → first_of c k (filled ends r) ≡ given gends gxs gys gfs →
    (take c ends ≡ gends) × (length gxs ≡ k)
taken_wide k (rows xs ys fs) h ends c {gends} {gxs} {gys} {gfs} e =
    let a : take c ends ≡ gends = cc in
    let b : take k xs ≡ gxs = cc in
    (a, sym (ap length b) ∙ length-take-le k xs h)

none_of : (f : Totals) (o : Option Refusal) (e : Filled) (g : GivenRows) → found_by (answer_of f o) e ≡ done g → o ≡ None
none_of f (Some k) e g h = absurd (let z : ◌≡◌ {A = ℕ} 0 1 = cc in omega arith)
none_of f None e g h = refl

module _ (bytes : List ℕ) (e x y f m : ℕ) where
  abbrev row : List (List ℕ)
  row = replicate m no_place

  abbrev n : ℕ
  n = length bytes

  abbrev s : Scan
  s = scan_in (pass_at bytes row n)

  abbrev ps : List (List ℕ)
  ps = row_in (pass_at bytes row n)

  abbrev found : Totals
  found = totals_of s (is_utf8 bytes)

  abbrev rs : Rooms
  rs = rooms e x y f m

  judged_is : judged_in bytes rs ≡ judged found ps
  judged_is = judged_by_lem bytes row (pass_at bytes row n) refl ∙ ap (judged found) (rows_same bytes (pass_at bytes row n))

  module _ (none : refusal_in found rs ≡ None) where
    room : Room found e x y f m
    room = room_of found e x y f m none

    through : Accepted false s (is_utf8 bytes)
    through = accepted s (is_utf8 bytes) (sym (found_refusal s (is_utf8 bytes)) ∙ room.passes)

    unrefused : Unrefused bytes row n
    unrefused = record { tree = through.tree; bare = through.bare; far = through.late }

    sums : (found.contours ≡ s.sum.contours) × (found.points ≡ s.sum.points) × (found.full ≡ s.sum.full)
    sums = found_sums s (is_utf8 bytes)

    outside : (tree_at bytes row n).level ≤ 2
    outside = omega (arith, (ground_at bytes row n unrefused n (omega arith)).fits, through.depth)

    laid : Laid ps found.contours found.points found.full
    laid =
        subst (λ (c : ℕ). Laid ps c found.points found.full) (sym sums.0)
        (subst (λ (p : ℕ). Laid ps s.sum.contours p found.full) (sym sums.1)
        (subst (λ (v : ℕ). Laid ps s.sum.contours s.sum.points v) (sym sums.2)
        (all_lies bytes row n unrefused outside (omega (arith, room.in_points, sums.1, length-replicate m no_place)))))

    abbrev E : List ℕ
    E = replicate e 0

    abbrev r₀ : Rows
    r₀ = rows (replicate x (pos 0)) (replicate y (pos 0)) (replicate f 0)

    entered : Entered ps (enter_up_to ps found.points found.contours (entering (record { from = 0; at = 0 }) E r₀)) found.contours found.points found.full (length E) (wide_of r₀)
    entered =
        laid_enters ps laid found.points (omega arith) (omega (arith, (laid_least ps laid).1, laid_most ps laid)) (λ h. absurd (omega arith)) E r₀
        (omega (arith, room.in_ends, length-replicate {A = ℕ} e 0))

    enters : enters_by (judged_in bytes rs) rs (zero_in rs) ≡ filled entered.ends entered.rows
    unfolding enter_all pick
    enters = rw (judged_is, none) (ap at_end entered.is)

    report : answer_by (judged_in bytes rs) rs ≡ Ok (record { contours = found.contours; points = found.full })
    report = rw (judged_is, none)

    belongs : (ends : List ℕ) (xs ys : List ℤ) (fs : List ℕ) → read_of rs bytes ≡ done (given ends xs ys fs) → belong ends (length xs) ≡ true
    unfolding belong
    belongs ends xs ys fs read =
        let shown : found_by (answer_by (judged_in bytes rs) rs) (enters_by (judged_in bytes rs) rs (zero_in rs)) ≡ done (first_of found.contours found.full (filled entered.ends entered.rows)) =
        λ i. found_by (report i) (enters i) in
        let same = done_is (sym shown ∙ read) in
        let wide : found.full ≤ wide_of entered.rows = omega (arith, entered.wide_is, room.in_xs, length-replicate x (pos 0)) in
        let taken = taken_wide found.full entered.rows wide entered.ends found.contours same in
        let rise : rising ends ≡ true = subst (λ (l : List ℕ). rising l ≡ true) taken.0 entered.risen.rise in
        let count : count_of ends ≡ found.full = sym (ap count_of taken.0) ∙ entered.risen.count in
        both_and (rising ends) (eqb (length xs) (count_of ends)) rise (eq-eqb (length xs) (count_of ends) (taken.1 ∙ sym count))

  -- what was read was not refused
  none_refused : (g : GivenRows) → read_of rs bytes ≡ done g → refusal_in found rs ≡ None
  none_refused g read =
      let given_rows : Filled = enters_by (judged_in bytes rs) rs (zero_in rs) in
      none_of found (refusal_in found rs) given_rows g (sym (ap (λ (j : Judged). found_by (answer_by j rs) given_rows) judged_is) ∙ read)

pub read_belongs : ReadBelongs
read_belongs (rooms e x y f m) bytes ends xs ys fs read = belongs bytes e x y f m (none_refused bytes e x y f m (given ends xs ys fs) read) ends xs ys fs read
