-- What the promise of specs/Calls/BothEditions says of both reports, and of two calls. Assumes nothing.
use mathlib.Core.Path.{◌≡◌, refl, sym, ap, subst, ◌∙◌}
use Rattle.rows.specs.Rows.{Work, work}
use Rattle.contour.specs.Output.{Outputs, outputs}
use Rattle.contour.specs.Points.{Points}
use Rattle.crunch.specs.Crunch.{Outcome, refused, crunched}
use Rattle.crunch.specs.Entry as Crunch
use Rattle.editions.specs.Determine as EditionsOnce
use Rattle.exports.specs.BothEditions as Reports
use Rattle.exports.specs.Determine.{EqualReports, editions_equal_orders}
use Rattle.exports.specs.Calls.BothEditions.{EditionsGiven, EditionsLeft, EditionsIs, EditionShows, EditionsShow, EditionsAlike, edition_defined_a, edition_defined_b, editions_after}
use Rattle.exports.specs.declared.both_editions.EditionsReport.{EditionsReport}

edition_shows : (o : Outcome) → EditionShows o (Reports.report_one (Crunch.answer_of o))
edition_shows (refused k) = (refl, refl, refl, refl)
edition_shows (crunched ps t) = (refl, refl, refl, refl)

pub editions_show : {g : EditionsGiven} {l : EditionsLeft} → EditionsIs g l → EditionsShow g l.report
editions_show {g} {l} p =
    rw p.shown.is (record {
      a = rw p.shown.promise.to_a.answer (edition_shows (edition_defined_a g));
      b = rw p.shown.promise.to_b.answer (edition_shows (edition_defined_b g));
    })

-- the rows that both share are those of the first
editions_left_by : EditionsReport → Outputs → Work → Points → Outputs → Work → Points → EditionsLeft
editions_left_by r (outputs ox oy of) (work s b a l) p (outputs ox' oy' of') (work s' b' a' l') p' = record {
  report = r;
  samples = s;
  breaks = b;
  answers_a = a;
  links_a = l;
  points_a = p;
  ox_a = ox;
  oy_a = oy;
  of_a = of;
  answers_b = a';
  links_b = l';
  points_b = p';
  ox_b = ox';
  oy_b = oy';
  of_b = of';
}

pub editions_left_lem : {g g' : EditionsGiven} {l l' : EditionsLeft} → EditionsIs g l → EditionsIs g' l' → g ≡ g' → l ≡ l'
unfolding editions_left_by
editions_left_lem {g} {g'} {l} {l'} p q e =
    let q' = (subst (λ (h : EditionsGiven). EditionsIs h l') (sym e) q).shown in
    let same = EditionsOnce.determined refl p.shown.promise q'.promise in
    let answer : p.shown.answer ≡ q'.answer = λ i. record { a = same.of_a_lem.answer i; b = same.of_b_lem.answer i } in
    let report : l.report ≡ l'.report = p.shown.is ∙ ap Reports.report answer ∙ sym q'.is in
    λ i. editions_left_by (report i) (same.of_a_lem.outs i) (same.of_a_lem.work i) (same.of_a_lem.points i) (same.of_b_lem.outs i) (same.of_b_lem.work i) (same.of_b_lem.points i)

pub editions_equal : {g g' : EditionsGiven} {l l' : EditionsLeft} → EditionsIs g l → EditionsIs g' l' → EditionsAlike g g' →
    EqualReports l.report l'.report (editions_after l) (editions_after l')
editions_equal p q a = editions_equal_orders a.rows p.shown (rw (← a.contour, ← a.order) at q.shown)
