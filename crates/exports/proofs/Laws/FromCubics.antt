-- What the promise of specs/Calls/FromCubics says of a report, and of two calls. Assumes nothing.
use Rattle.std.specs.Prelude.{ℕ, Result, Ok, Err}
use Rattle.refusals.specs.declared.refusal.Refusal.{Refusal}
use mathlib.Core.Path.{◌≡◌, refl, sym, subst, ◌∙◌}
use lib.ListN.{take}
use Rattle.rows.specs.Lent.{Shown}
use Rattle.contour.specs.Output.{Outputs, outputs}
use Rattle.cubics.specs.Determine.{Same, first_of}
use Rattle.exports.specs.FromCubics as Reports
use Rattle.exports.specs.Determine.{cubic_determined, cubic_equal_orders}
use Rattle.exports.specs.Calls.FromCubics.{CubicGiven, CubicLeft, CubicIs, CubicShows, CubicAlike, cubic_defined, cubic_after, cubic_written}
use Rattle.exports.specs.declared.from_cubics.CubicReport.{CubicReport}

pub cubic_shows : {g : CubicGiven} {l : CubicLeft} → CubicIs g l → CubicShows (cubic_defined g) l.report
cubic_shows {g} {l} p = rw (p.shown.is, p.shown.promise.answer) (by (cubic_defined g))
  where
    by : (o : Result ℕ Refusal) → CubicShows o (Reports.report o)
    by (Err k) = (refl, refl)
    by (Ok n) = (refl, refl)

cubic_left_by : CubicReport → Outputs → CubicLeft
cubic_left_by r (outputs ox oy of) = record { report = r; ox = ox; oy = oy; of = of }

pub cubic_left_lem : {g g' : CubicGiven} {l l' : CubicLeft} → CubicIs g l → CubicIs g' l' → g ≡ g' → l ≡ l'
unfolding cubic_left_by
cubic_left_lem {g} {g'} {l} {l'} p q e =
    let same = cubic_determined refl p.shown (subst (λ (h : CubicGiven). CubicIs h l') (sym e) q).shown in
    λ i. cubic_left_by (same.answer i) (same.left i)

-- the first places by the answer are those by the report
cubic_first : {P : Result ℕ Refusal → Type 0} (l : CubicLeft) (s : Shown Reports.report P l.report) → first_of s.answer (cubic_after l) ≡ cubic_written l
cubic_first l s = rw s.is (by s.answer)
  where
    by : (a : Result ℕ Refusal) → first_of a (cubic_after l) ≡ outputs (take (Reports.report a).points l.ox) (take (Reports.report a).points l.oy) (take (Reports.report a).points l.of)
    by (Err n) = refl
    by (Ok n) = refl

pub cubic_equal : {g g' : CubicGiven} {l l' : CubicLeft} → CubicIs g l → CubicIs g' l' → CubicAlike g g' →
    Same l.report l'.report (cubic_written l) (cubic_written l')
cubic_equal {l = l} {l'} p q a =
    let q' = rw (← a.contour) at q.shown in
    let same = cubic_equal_orders a.places p.shown q' in
    record { answer = same.answer; left = sym (cubic_first l p.shown) ∙ same.left ∙ cubic_first l' q' }
