-- What the reports of idle controls show. Assumes nothing.
use Rattle.std.specs.Prelude.{ℕ, Result, Ok, Err}
use Rattle.refusals.specs.declared.refusal.Refusal.{Refusal}
use mathlib.Core.Path.{◌≡◌, refl}
use Rattle.clean.specs.declared.Cleaned as C
use Rattle.exports.specs.Cleaning as Cleaning
use Rattle.exports.specs.IdleControls as Reports
use Rattle.exports.proofs.Laws.Cleaning.{Shows, PutsShown, Counts, PutCounts}

-- those of cleaning are the same
pub same_report : (c : Result C.Cleaned Refusal) → Cleaning.report c ≡ Reports.report c
same_report (Err k) = refl
same_report (Ok c) = refl

pub same_put_report : (c : Result ℕ Refusal) → Cleaning.put_report c ≡ Reports.put_report c
same_put_report (Err k) = refl
same_put_report (Ok n) = refl

pub counts : Counts Reports.report
counts (Err n) l = refl
counts (Ok c) l = refl

pub put_counts : PutCounts Reports.put_report
put_counts (Err n) l = refl
put_counts (Ok n) l = refl

pub fields : Shows Reports.report
fields (Err k) = (refl, refl, refl)
fields (Ok c) = (refl, refl, refl)

pub put_fields : PutsShown Reports.put_report
put_fields (Err k) = (refl, refl)
put_fields (Ok n) = (refl, refl)
