-- What the promise of specs/Calls/WrittenOut says of a report, and of two calls. Assumes nothing.
use Rattle.std.specs.Prelude.{ℕ, Result, Ok, Err}
use Rattle.refusals.specs.declared.refusal.Refusal.{Refusal}
use mathlib.Core.Path.{◌≡◌, refl, sym, subst, ◌∙◌}
use lib.ListN.{take}
use Rattle.rows.specs.Lent.{Shown}
use Rattle.contour.specs.Output.{Outputs, outputs}
use Rattle.explicit.specs.Determine.{Same, first_of}
use Rattle.exports.specs.WrittenOut as Reports
use Rattle.exports.specs.Determine.{explicit_determined, explicit_equal_orders}
use Rattle.exports.specs.Calls.WrittenOut.{ExplicitGiven, ExplicitLeft, ExplicitIs, ExplicitShows, ExplicitAlike, explicit_defined, explicit_after, explicit_written}
use Rattle.exports.specs.declared.written_out.ExplicitReport.{ExplicitReport}

pub explicit_shows : {g : ExplicitGiven} {l : ExplicitLeft} → ExplicitIs g l → ExplicitShows (explicit_defined g) l.report
explicit_shows {g} {l} p = rw (p.shown.is, p.shown.promise.answer) (by (explicit_defined g))
  where
    by : (o : Result ℕ Refusal) → ExplicitShows o (Reports.report o)
    by (Err k) = (refl, refl)
    by (Ok n) = (refl, refl)

explicit_left_by : ExplicitReport → Outputs → ExplicitLeft
explicit_left_by r (outputs ox oy of) = record { report = r; ox = ox; oy = oy; of = of }

pub explicit_left_lem : {g g' : ExplicitGiven} {l l' : ExplicitLeft} → ExplicitIs g l → ExplicitIs g' l' → g ≡ g' → l ≡ l'
unfolding explicit_left_by
explicit_left_lem {g} {g'} {l} {l'} p q e =
    let same = explicit_determined refl p.shown (subst (λ (h : ExplicitGiven). ExplicitIs h l') (sym e) q).shown in
    λ i. explicit_left_by (same.answer i) (same.left i)

-- the first places by the answer are those by the report
explicit_first : {P : Result ℕ Refusal → Type 0} (l : ExplicitLeft) (s : Shown Reports.report P l.report) → first_of s.answer (explicit_after l) ≡ explicit_written l
explicit_first l s = rw s.is (by s.answer)
  where
    by : (a : Result ℕ Refusal) → first_of a (explicit_after l) ≡ outputs (take (Reports.report a).points l.ox) (take (Reports.report a).points l.oy) (take (Reports.report a).points l.of)
    by (Err n) = refl
    by (Ok n) = refl

pub explicit_equal : {g g' : ExplicitGiven} {l l' : ExplicitLeft} → ExplicitIs g l → ExplicitIs g' l' → ExplicitAlike g g' →
    Same l.report l'.report (explicit_written l) (explicit_written l')
explicit_equal {l = l} {l'} p q a =
    let q' = rw (← a.contour) at q.shown in
    let same = explicit_equal_orders a.places p.shown q' in
    record { answer = same.answer; left = sym (explicit_first l p.shown) ∙ same.left ∙ explicit_first l' q' }
