-- What fontcrunch_drop_idle and fontcrunch_put_back_idle promise. Their rows and numbers are those of fontcrunch_clean and fontcrunch_put_back, under the
-- same names. Statements; the theorems stand in proofs/Stated/IdleControls.
use Rattle.std.specs.Prelude.{Result}
use Rattle.refusals.specs.declared.refusal.Refusal.{Refusal}
use Rattle.clean.specs.declared.Cleaned as C
use Rattle.idle.specs.Entry.{idle_in, spots_for}
use Rattle.exports.specs.IdleControls as Reports
use Rattle.exports.specs.Calls.Cleaning.{CleanGiven, CleanLeft, SiftIs, sift_defined, PutGiven, PutLeft, RestoreIs}

-- the promise of the entry that drops idle controls, for what the caller gave
abbrev pub DropIs : CleanGiven → CleanLeft → Type 0
DropIs g l = SiftIs Reports.report idle_in g l

-- what its definition gives, for what the caller gave
abbrev pub drop_defined : CleanGiven → Result C.Cleaned Refusal
drop_defined g = sift_defined idle_in g

-- the promise of the entry that puts them back
abbrev pub PutIdleIs : PutGiven → PutLeft → Type 0
PutIdleIs g l = RestoreIs Reports.put_report spots_for g l
