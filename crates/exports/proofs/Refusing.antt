-- A report of GLIF whose number is not 0 leaves what was lent as it was, but for zeros in scratch rows: of a file read, of one written, of one crunched.
-- Assumes nothing.
use Rattle.std.specs.Prelude.{ℕ, List, ◌≡◌, replicate, Result, Ok, Err}
use Rattle.std.proofs.Common.{ap}
use Rattle.refusals.specs.declared.refusal.Refusal.{Refusal}
use denote.Triple.Both.{Both}
use Rattle.rows.specs.Lent.{Shown}
use Rattle.settings.specs.declared.Settings.{Settings}
use Rattle.glifread.specs.Enter.{no_place, Filled}
use Rattle.glifread.specs.Reads as GlifReads
use Rattle.glifread.specs.Entry as GlifRead
use Rattle.glifread.specs.Determine as GlifReadOnce
use Rattle.glifread.specs.declared.read.Counts.{Counts}
use Rattle.glifwrite.specs.Writes.{GivenRows}
use Rattle.glifwrite.specs.Entry as GlifWrite
use Rattle.glifwrite.specs.Determine as GlifWriteOnce
use Rattle.glifs.specs.Entry as GlifCrunch
use Rattle.glifs.specs.Determine as GlifCrunchOnce
use Rattle.exports.specs.Glif as Glif
use Rattle.exports.specs.declared.glif_files.GlifReadReport.{GlifReadReport}
use Rattle.exports.specs.declared.glif_files.GlifWriteReport.{GlifWriteReport}

-- where the report of a file has a number the rows hold what they held, and the scratch row for points is zero
read_refused : {bytes : List ℕ} {f f' : Filled} {ps ps' : List (List ℕ)} {r : GlifReadReport} (o : Result Counts Refusal) → r ≡ Glif.read_report o →
    GlifRead.Promise bytes (record { entry = GlifReads.kept f ps; exit = GlifReads.kept f' ps' }) o → (r.number ≡ 0 → ⊥) →
    GlifReads.kept f' ps' ≡ GlifReads.kept f (replicate (GlifReads.scratch_room (GlifReads.rooms_of (GlifReads.kept f ps))) no_place)
read_refused (Err k) is p h = GlifReadOnce.refused_leaves p
read_refused (Ok c) is p h = absurd (h (ap (λ (v : GlifReadReport). v.number) is))

pub glif_read_refused_leaves : {bytes : List ℕ} {f f' : Filled} {ps ps' : List (List ℕ)} {r : GlifReadReport} →
    Shown Glif.read_report (GlifRead.Promise bytes (record { entry = GlifReads.kept f ps; exit = GlifReads.kept f' ps' })) r → (r.number ≡ 0 → ⊥) →
    GlifReads.kept f' ps' ≡ GlifReads.kept f (replicate (GlifReads.scratch_room (GlifReads.rooms_of (GlifReads.kept f ps))) no_place)
glif_read_refused_leaves s h = read_refused s.answer s.is s.promise h

-- where the report of a file written has a number no byte is written
write_refused : {bytes : List ℕ} {g : GivenRows} {w : Both (List ℕ) (List ℕ)} {r : GlifWriteReport} (o : Result ℕ Refusal) → r ≡ Glif.write_report o →
    GlifWrite.Promise bytes g w o → (r.number ≡ 0 → ⊥) → w.exit ≡ w.entry
write_refused (Err k) is p h = GlifWriteOnce.refused_leaves p
write_refused (Ok n) is p h = absurd (h (ap (λ (v : GlifWriteReport). v.number) is))

pub glif_write_refused_leaves : {bytes : List ℕ} {g : GivenRows} {w : Both (List ℕ) (List ℕ)} {r : GlifWriteReport} →
    Shown Glif.write_report (GlifWrite.Promise bytes g w) r → (r.number ≡ 0 → ⊥) → w.exit ≡ w.entry
glif_write_refused_leaves s h = write_refused s.answer s.is s.promise h

-- nor where that of a file crunched has
crunch_refused : {bytes : List ℕ} {settings : Settings} {t : GlifCrunch.LentRows} {r : GlifWriteReport} (o : Result ℕ Refusal) → r ≡ Glif.write_report o →
    GlifCrunch.Promise bytes settings t o → (r.number ≡ 0 → ⊥) → t.exit.out ≡ t.entry.out
crunch_refused (Err k) is p h = GlifCrunchOnce.refused_leaves p
crunch_refused (Ok n) is p h = absurd (h (ap (λ (v : GlifWriteReport). v.number) is))

pub glif_crunch_refused_leaves : {bytes : List ℕ} {settings : Settings} {t : GlifCrunch.LentRows} {r : GlifWriteReport} →
    Shown Glif.write_report (GlifCrunch.Promise bytes settings t) r → (r.number ≡ 0 → ⊥) → t.exit.out ≡ t.entry.out
glif_crunch_refused_leaves s h = crunch_refused s.answer s.is s.promise h
