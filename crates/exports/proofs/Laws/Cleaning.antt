-- What the promises of specs/Calls/Cleaning say of a report and of two calls, and those of any entry that keeps and lists, or puts back, as they do.
-- Assumes nothing.
use Rattle.std.specs.Prelude.{Result, Ok, Err}
use Rattle.refusals.specs.declared.refusal.Refusal.{Refusal}
use Prim.Native.Nat.{ℕ}
use mathlib.Core.List.{List}
use mathlib.Core.Path.{◌≡◌, refl, sym, subst, ◌∙◌}
use lib.ListN.{length, take}
use Rattle.rows.specs.Lent.{Inputs, Shown}
use Rattle.contour.specs.Output.{Outputs, outputs}
use Rattle.clean.specs.Clean.{Cleaning}
use Rattle.clean.specs.Entry.{Rows, rows}
use Rattle.clean.specs.Determine.{Same, first_of, first_points, Counted, counted_back}
use Rattle.clean.specs.declared.Cleaned as C
use Rattle.exports.specs.Cleaning as Reports
use Rattle.exports.specs.Determine.{clean_determined, clean_equal_orders, put_determined, put_equal_orders}
use Rattle.exports.specs.Calls.Cleaning.{CleanGiven, CleanLeft, SiftIs, CleanIs, CleanShows, CleanAlike}
use Rattle.exports.specs.Calls.Cleaning.{sift_defined, clean_defined, clean_after, clean_written}
use Rattle.exports.specs.Calls.Cleaning.{PutGiven, PutLeft, RestoreIs, PutIs, PutShows, PutAlike, put_contour, put_defined, put_after, put_written}
use Rattle.exports.specs.declared.cleaning.CleanReport.{CleanReport}
use Rattle.exports.specs.declared.cleaning.PutReport.{PutReport}

-- ---- keeping and listing

-- a report shows an answer, field by field
abbrev pub Shows : ((Result C.Cleaned Refusal) → CleanReport) → Type 0
Shows show = (o : Result C.Cleaned Refusal) → CleanShows o (show o)

pub sift_shows : {show : Result C.Cleaned Refusal → CleanReport} {rule : Inputs → Cleaning} {g : CleanGiven} {l : CleanLeft} → Shows show → SiftIs show rule g l →
    CleanShows (sift_defined rule g) l.report
sift_shows {rule = rule} {g = g} shows p = rw (p.shown.is, p.shown.promise.answer) (shows (sift_defined rule g))

clean_left_by : CleanReport → Rows → CleanLeft
clean_left_by r (rows (outputs ox oy of) list) = record { report = r; ox = ox; oy = oy; of = of; list = list }

-- the first places by a report
abbrev by_report : CleanReport → CleanLeft → Rows
by_report r l = rows (outputs (take r.kept l.ox) (take r.kept l.oy) (take r.kept l.of)) (take r.dropped l.list)

-- a report shows how many places are written
abbrev pub Counts : ((Result C.Cleaned Refusal) → CleanReport) → Type 0
Counts show = (a : Result C.Cleaned Refusal) (l : CleanLeft) → first_of a (clean_after l) ≡ by_report (show a) l

-- the first places by the answer are those by the report
sift_first : {show : Result C.Cleaned Refusal → CleanReport} → Counts show → {P : Result C.Cleaned Refusal → Type 0} (l : CleanLeft) (s : Shown show P l.report) →
    first_of s.answer (clean_after l) ≡ clean_written l
sift_first counts l s = rw s.is (counts s.answer l)

module _ {show : Result C.Cleaned Refusal → CleanReport} {rule : Inputs → Cleaning} {g g' : CleanGiven} {l l' : CleanLeft} where
  pub sift_left : SiftIs show rule g l → SiftIs show rule g' l' → g ≡ g' → l ≡ l'
  unfolding clean_left_by
  sift_left p q e =
      let same = clean_determined refl p.shown (subst (λ (h : CleanGiven). SiftIs show rule h l') (sym e) q).shown in
      λ i. clean_left_by (same.answer i) (same.left i)

  pub sift_equal : Counts show → SiftIs show rule g l → SiftIs show rule g' l' → CleanAlike g g' →
      Same l.report l'.report (clean_written l) (clean_written l')
  sift_equal counts p q a =
      let q' = rw (← a.contour) at q.shown in
      let same = clean_equal_orders a.places p.shown q' in
      record { answer = same.answer; left = sym (sift_first counts l p.shown) ∙ same.left ∙ sift_first counts l' q' }

clean_counts : Counts Reports.report
clean_counts (Err n) l = refl
clean_counts (Ok c) l = refl

clean_fields : Shows Reports.report
clean_fields (Err k) = (refl, refl, refl)
clean_fields (Ok c) = (refl, refl, refl)

pub clean_shows : {g : CleanGiven} {l : CleanLeft} → CleanIs g l → CleanShows (clean_defined g) l.report
clean_shows p = sift_shows clean_fields p

pub clean_left_lem : {g g' : CleanGiven} {l l' : CleanLeft} → CleanIs g l → CleanIs g' l' → g ≡ g' → l ≡ l'
clean_left_lem p q e = sift_left p q e

pub clean_equal : {g g' : CleanGiven} {l l' : CleanLeft} → CleanIs g l → CleanIs g' l' → CleanAlike g g' →
    Same l.report l'.report (clean_written l) (clean_written l')
clean_equal p q a = sift_equal clean_counts p q a

-- ---- putting back

abbrev pub PutsShown : ((Result ℕ Refusal) → PutReport) → Type 0
PutsShown show = (o : Result ℕ Refusal) → PutShows o (show o)

pub restore_shows : {show : Result ℕ Refusal → PutReport} {rule : Inputs → List (List ℕ) → List (List ℕ)} {g : PutGiven} {l : PutLeft} → PutsShown show →
    RestoreIs show rule g l → PutShows (put_defined g) l.report
restore_shows {g = g} shows p = rw (p.shown.is, p.shown.promise.answer) (shows (put_defined g))

put_left_by : PutReport → Outputs → PutLeft
put_left_by r (outputs ox oy of) = record { report = r; ox = ox; oy = oy; of = of }

abbrev by_put_report : PutReport → PutLeft → Outputs
by_put_report r l = outputs (take r.points l.ox) (take r.points l.oy) (take r.points l.of)

abbrev pub PutCounts : ((Result ℕ Refusal) → PutReport) → Type 0
PutCounts show = (a : Result ℕ Refusal) (l : PutLeft) → first_points a (put_after l) ≡ by_put_report (show a) l

restore_first : {show : Result ℕ Refusal → PutReport} → PutCounts show → {P : Result ℕ Refusal → Type 0} (l : PutLeft) (s : Shown show P l.report) →
    first_points s.answer (put_after l) ≡ put_written l
restore_first counts l s = rw s.is (counts s.answer l)

module _ {show : Result ℕ Refusal → PutReport} {rule : Inputs → List (List ℕ) → List (List ℕ)} {g g' : PutGiven} {l l' : PutLeft} where
  pub restore_left : RestoreIs show rule g l → RestoreIs show rule g' l' → g ≡ g' → l ≡ l'
  unfolding put_left_by
  restore_left p q e =
      let same = put_determined refl p.shown (subst (λ (h : PutGiven). RestoreIs show rule h l') (sym e) q).shown in
      λ i. put_left_by (same.answer i) (same.left i)

  pub restore_equal : PutCounts show → Counted (put_contour g) (length g.list) (rule (put_contour g) g.list) →
      RestoreIs show rule g l → RestoreIs show rule g' l' → PutAlike g g' → Same l.report l'.report (put_written l) (put_written l')
  restore_equal counts all p q a =
      let q' = rw (← a.contour, ← a.list) at q.shown in
      let same = put_equal_orders all a.places p.shown q' in
      record { answer = same.answer; left = sym (restore_first counts l p.shown) ∙ same.left ∙ restore_first counts l' q' }

put_counts : PutCounts Reports.put_report
put_counts (Err n) l = refl
put_counts (Ok n) l = refl

put_fields : PutsShown Reports.put_report
put_fields (Err k) = (refl, refl)
put_fields (Ok n) = (refl, refl)

pub put_shows : {g : PutGiven} {l : PutLeft} → PutIs g l → PutShows (put_defined g) l.report
put_shows p = restore_shows put_fields p

pub put_left_lem : {g g' : PutGiven} {l l' : PutLeft} → PutIs g l → PutIs g' l' → g ≡ g' → l ≡ l'
put_left_lem p q e = restore_left p q e

pub put_equal : {g g' : PutGiven} {l l' : PutLeft} → PutIs g l → PutIs g' l' → PutAlike g g' →
    Same l.report l'.report (put_written l) (put_written l')
put_equal {g} p q a = restore_equal put_counts (counted_back (put_contour g) g.list) p q a
