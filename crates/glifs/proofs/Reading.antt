-- What was read stands in the first places of rows that were zero. Assumes nothing.
use Prim.Native.Nat.{ℕ, ◌≤◌}
use native.Mathlib.Omega.{arith}
use mathlib.Core.List.{List}
use mathlib.Core.Path.{◌≡◌, refl, sym, ap, subst, ◌∙◌}
use borrow.Author.Tests.{ltb-false}
use lib.Dec.{ltb}
use Rattle.std.specs.Prelude.{Option, Some, None, Result, Ok, Err}
use Rattle.refusals.specs.declared.refusal.Refusal.{Refusal}
use Rattle.refusals.specs.declared.refusal.Refusal.TheVariants.{OutputTooShort}
use lib.IntN.{ℤ, pos}
use lib.ListN.{length, replicate, length-replicate}
use Rattle.glif.specs.Scan.{Judged, judged}
use Rattle.glif.specs.declared.scan.Totals.{Totals}
use Rattle.edition.specs.Edition as Edition
use Rattle.settings.specs.declared.Settings.{Settings}
use Rattle.glifread.specs.Enter.{no_place, Filled, filled, rows}
use Rattle.glifread.specs.Reads.{Kept, kept, rooms, rooms_of, refusal, answer_of, answer_by, enters_by}
use Rattle.glifread.specs.Reads as Reads
use Rattle.glifread.specs.Entry.{judged_in, Promise}
use Rattle.glifread.specs.declared.read.Counts.{Counts}
use Rattle.glifwrite.specs.Writes.{GivenRows}
use Rattle.glyf.specs.Layout.{Outcome, done, refused}
use Rattle.glifs.specs.Glifs.{Rooms, zero_rows, first_of, found_by, read_of, renewed_of, crunch_glif_of}
use Rattle.glifs.specs.Entry.{zero_kept}
use Rattle.glifs.specs.Stands.{InRows, Writes}
use Rattle.glifs.proofs.Written.{passed, first_none}

-- ---- an answer says no more than rows have places

module _ (f : Totals) (ends xs ys flags points : ℕ) (h : refusal f ends xs ys flags points ≡ None) where
  record Few : Type 0 where
    in_ends : f.contours ≤ ends
    in_xs : f.full ≤ xs
    in_ys : f.full ≤ ys
    in_flags : f.full ≤ flags

  few_in : Few
  unfolding refusal
  few_in =
      let a = passed OutputTooShort (ltb ends f.contours) _ (first_none f.refusal _ h).1 in
      let b = passed OutputTooShort (ltb points f.points) _ a.1 in
      let x = passed OutputTooShort (ltb xs f.full) _ b.1 in
      let y = passed OutputTooShort (ltb ys f.full) _ x.1 in
      let z = passed OutputTooShort (ltb flags f.full) _ y.1 in
      record {
        in_ends = ltb-false ends f.contours a.0;
        in_xs = ltb-false xs f.full x.0;
        in_ys = ltb-false ys f.full y.0;
        in_flags = ltb-false flags f.full z.0;
      }

in_rows_by : (j : Judged) (ends xs ys flags points : ℕ) (c : Counts) → Ok c ≡ answer_by j (rooms ends xs ys flags points) →
    InRows ends xs ys flags c.contours c.points
in_rows_by (judged f ps) ends xs ys flags points c e = by (refusal f ends xs ys flags points) refl e
  where
    by : (o : Option Refusal) → refusal f ends xs ys flags points ≡ o → Ok c ≡ answer_of f o → InRows ends xs ys flags c.contours c.points
    by (Some k) is e = absurd (let z : ◌≡◌ {A = ℕ} 0 1 = cc in omega arith)
    by None is e =
        let same : record { contours = f.contours; points = f.full } ≡ c = cc in
        let w = few_in f ends xs ys flags points is in
        subst (λ (v : Counts). InRows ends xs ys flags v.contours v.points) same
        (record { in_ends = w.in_ends; in_xs = w.in_xs; in_ys = w.in_ys; in_flags = w.in_flags })

-- ---- reading into rows that were made zero

abbrev filled_in : Kept → Filled
filled_in (kept f ps) = f

abbrev marks_in : Kept → List (List ℕ)
marks_in (kept f ps) = ps

module _ (bytes : List ℕ) (ends xs ys flags : ℕ) (marks : List (List ℕ)) {ends₁ : List ℕ} {xs₁ ys₁ : List ℤ} {fs₁ : List ℕ}
    {ends₂ : List ℕ} {xs₂ ys₂ : List ℤ} {fs₂ : List ℕ} {marks₂ : List (List ℕ)} {r : Result Counts Refusal}
    (cleared : filled ends₁ (rows xs₁ ys₁ fs₁) ≡ zero_rows ends xs ys flags)
    (p : Promise bytes (record {
      entry = kept (filled ends₁ (rows xs₁ ys₁ fs₁)) marks;
      exit = kept (filled ends₂ (rows xs₂ ys₂ fs₂)) marks₂;
    }) r) where
  abbrev n : Reads.Rooms
  n = rooms ends xs ys flags (length marks)

  same_rooms : rooms_of (kept (filled ends₁ (rows xs₁ ys₁ fs₁)) marks) ≡ n
  same_rooms =
      ap (λ (f : Filled). rooms_of (kept f marks)) cleared
      ∙ (λ i. rooms (length-replicate {A = ℕ} ends 0 i) (length-replicate {A = ℤ} xs (pos 0) i) (length-replicate {A = ℤ} ys (pos 0) i) (length-replicate {A = ℕ} flags 0 i) (length marks))

  answer : r ≡ answer_by (judged_in bytes n) n
  answer = p.answer ∙ ap (λ (m : Reads.Rooms). answer_by (judged_in bytes m) m) same_rooms

  enters : filled ends₂ (rows xs₂ ys₂ fs₂) ≡ enters_by (judged_in bytes n) n (zero_rows ends xs ys flags)
  enters =
      ap filled_in p.left
      ∙ ap (λ (m : Reads.Rooms). enters_by (judged_in bytes m) m (filled ends₁ (rows xs₁ ys₁ fs₁))) same_rooms
      ∙ ap (enters_by (judged_in bytes n) n) cleared

  pub in_rows : {c : Counts} → r ≡ Ok c → InRows ends xs ys flags c.contours c.points
  in_rows {c} e = in_rows_by (judged_in bytes n) ends xs ys flags (length marks) c (sym e ∙ answer)

  found : read_of n bytes ≡ found_by r (filled ends₂ (rows xs₂ ys₂ fs₂))
  found = λ i. found_by (sym answer i) (sym enters i)

  abbrev left : Filled
  left = filled ends₂ (rows xs₂ ys₂ fs₂)

  pub was_read : {c : Counts} → r ≡ Ok c → read_of n bytes ≡ done (first_of c.contours c.points left)
  was_read e = found ∙ ap (λ (v : Result Counts Refusal). found_by v left) e

  pub unread : {k : Refusal} → r ≡ Err k → read_of n bytes ≡ refused k
  unread e = found ∙ ap (λ (v : Result Counts Refusal). found_by v left) e

  pub marks_zero : marks₂ ≡ replicate (length marks) no_place
  marks_zero = ap marks_in p.left

-- ---- `crunch_bytes`

module _ (n : Rooms) (settings : Settings) (bytes out : List ℕ) where
  pub none_read : {k : Refusal} → read_of n.read bytes ≡ refused k → Writes bytes out out (crunch_glif_of n settings bytes) (Err k)
  unfolding crunch_glif_of
  none_read e = rw e (record { answer = refl; left = refl })

-- the rows that were read into are as long as they were
pub all_read : (settings : Settings) (bytes out : List ℕ) (work : Edition.Rooms) (ends xs ys flags marks points : ℕ) {g : GivenRows} →
    read_of (rooms ends xs ys flags marks) bytes ≡ done g → {x y f : ℕ} → x ≡ xs → y ≡ ys → f ≡ flags → {out' : List ℕ} {a : Result ℕ Refusal} →
    Writes bytes out out' (renewed_of work settings x y f points g) a →
    Writes bytes out out' (crunch_glif_of (record { out = length out; read = rooms ends xs ys flags marks; work = work; points = points }) settings bytes) a
unfolding crunch_glif_of
all_read settings bytes out work ends xs ys flags marks points {g} e hx hy hf {out'} {a} w =
    rw e (subst (λ (o : Outcome GivenRows). Writes bytes out out' o a) (λ i. renewed_of work settings (hx i) (hy i) (hf i) points g) w)

-- ---- `crunch_glif`

pub rows_zero : (e' x' y' s' n : ℕ) {f : Filled} {ps : List (List ℕ)} {e x y s : ℕ} → f ≡ zero_rows e' x' y' s' → e' ≡ e → x' ≡ x → y' ≡ y → s' ≡ s →
    ps ≡ replicate n no_place → kept f ps ≡ zero_kept (rooms e x y s n)
rows_zero e' x' y' s' n h he hx hy hs g = λ i. kept ((h ∙ (λ j. zero_rows (he j) (hx j) (hy j) (hs j))) i) (g i)
