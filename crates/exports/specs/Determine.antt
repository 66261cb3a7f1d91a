-- The promises of the exports determine the report and every lent row; and the report and what is written are those of what is read and of the lengths
-- of the rows alone, whatever the rows held. Assumes nothing.
use Rattle.std.specs.Prelude.{ℕ, List, ◌≡◌, refl, length, Result}
use Rattle.std.proofs.Common.{sym, ap, ◌∙◌}
use Rattle.refusals.specs.declared.refusal.Refusal.{Refusal}
use denote.Triple.Both.{Both}
use Rattle.rows.specs.Lent.{Lent, before, after, room, Inputs, Shown}
use Rattle.settings.specs.declared.Settings.{Settings}
use Rattle.contour.specs.Output.{Outputs}
use Rattle.glyf.specs.Layout.{Glyph}
use Rattle.glyf.specs.Layout as Layout
use Rattle.clean.specs.Clean.{Cleaning}
use Rattle.clean.specs.Entry as Clean
use Rattle.clean.specs.Determine as CleanOnce
use Rattle.why.specs.Entry as Why
use Rattle.why.specs.Determine as WhyOnce
use Rattle.cubics.specs.Entry as Cubics
use Rattle.cubics.specs.Determine as CubicsOnce
use Rattle.explicit.specs.Entry as Explicit
use Rattle.explicit.specs.Determine as ExplicitOnce
use Rattle.glyfread.specs.Entry as Read
use Rattle.glyfread.specs.Determine as ReadOnce
use Rattle.glyfwrite.specs.Entry as Write
use Rattle.glyfwrite.specs.Determine as WriteOnce
use Rattle.glyphs.specs.Entry as Crunch
use Rattle.glyphs.specs.Determine as CrunchOnce
use Rattle.glifread.specs.Reads as GlifReads
use Rattle.glifread.specs.Entry as GlifRead
use Rattle.glifread.specs.Determine as GlifReadOnce
use Rattle.glifwrite.specs.Writes.{GivenRows}
use Rattle.glifwrite.specs.Entry as GlifWrite
use Rattle.glifwrite.specs.Determine as GlifWriteOnce
use Rattle.glifs.specs.Entry as GlifCrunch
use Rattle.glifs.specs.Determine as GlifCrunchOnce
use Rattle.editions.specs.Entry as Editions
use Rattle.editions.specs.Determine as EditionsOnce
use Rattle.editions.specs.declared.entry.Editions as Answers
use Rattle.editions.specs.declared.work.Order.{Order}
use Rattle.clean.specs.declared.Cleaned as Cleaned
use Rattle.exports.specs.Reasons as Reasons
use Rattle.exports.specs.FromCubics as FromCubics
use Rattle.exports.specs.WrittenOut as WrittenOut
use Rattle.exports.specs.Glyph.{read_report, write_report}
use Rattle.exports.specs.Glif as Glif
use Rattle.exports.specs.BothEditions as BothEditions
use Rattle.exports.specs.declared.cleaning.CleanReport.{CleanReport}
use Rattle.exports.specs.declared.cleaning.PutReport.{PutReport}
use Rattle.exports.specs.declared.reasons.WhyReport.{WhyReport}
use Rattle.exports.specs.declared.from_cubics.CubicReport.{CubicReport}
use Rattle.exports.specs.declared.written_out.ExplicitReport.{ExplicitReport}
use Rattle.exports.specs.declared.glyph.GlyphReadReport.{GlyphReadReport}
use Rattle.exports.specs.declared.glyph.GlyphWriteReport.{GlyphWriteReport}
use Rattle.exports.specs.declared.glif_files.GlifReadReport.{GlifReadReport}
use Rattle.exports.specs.declared.glif_files.GlifWriteReport.{GlifWriteReport}
use Rattle.exports.specs.declared.both_editions.EditionsReport.{EditionsReport}

-- two answers that are one are shown alike
shown_same : {A R : Type 0} {show : A → R} {P Q : A → Type 0} {r r' : R} (p : Shown show P r) (q : Shown show Q r') → p.answer ≡ q.answer → r ≡ r'
shown_same {show = show} p q e = p.is ∙ ap show e ∙ sym q.is

-- ---- cleaning, and whatever keeps and lists, and puts back, as it does

pub clean_equal_orders : {show : Result Cleaned.Cleaned Refusal → CleanReport} {i : Inputs} {c : Cleaning} {w w' : Both Clean.Rows Clean.Rows} {r r' : CleanReport} →
    CleanOnce.places_of w.entry ≡ CleanOnce.places_of w'.entry →
    (s : Shown show (Clean.Sifts i c w) r) → (s' : Shown show (Clean.Sifts i c w') r') →
    CleanOnce.Same r r' (CleanOnce.first_of s.answer w.exit) (CleanOnce.first_of s'.answer w'.exit)
clean_equal_orders e s s' =
    let same = CleanOnce.equal_orders e s.promise s'.promise in
    record { answer = shown_same s s' same.answer; left = same.left }

pub clean_determined : {show : Result Cleaned.Cleaned Refusal → CleanReport} {i : Inputs} {c : Cleaning} {w w' : Both Clean.Rows Clean.Rows} {r r' : CleanReport} →
    w.entry ≡ w'.entry → Shown show (Clean.Sifts i c w) r → Shown show (Clean.Sifts i c w') r' → CleanOnce.Same r r' w.exit w'.exit
clean_determined e s s' =
    let same = CleanOnce.determined e s.promise s'.promise in
    record { answer = shown_same s s' same.answer; left = same.left }

pub put_equal_orders : {show : Result ℕ Refusal → PutReport} {i : Inputs} {n : ℕ} {spots : List (List ℕ)} {w w' : Both Outputs Outputs} {r r' : PutReport} →
    CleanOnce.Counted i n spots →
    CleanOnce.point_places w.entry ≡ CleanOnce.point_places w'.entry →
    (s : Shown show (Clean.Restores i n spots w) r) → (s' : Shown show (Clean.Restores i n spots w') r') →
    CleanOnce.Same r r' (CleanOnce.first_points s.answer w.exit) (CleanOnce.first_points s'.answer w'.exit)
put_equal_orders count e s s' =
    let same = CleanOnce.put_equal_orders count e s.promise s'.promise in
    record { answer = shown_same s s' same.answer; left = same.left }

pub put_determined : {show : Result ℕ Refusal → PutReport} {i : Inputs} {n : ℕ} {spots : List (List ℕ)} {w w' : Both Outputs Outputs} {r r' : PutReport} →
    w.entry ≡ w'.entry → Shown show (Clean.Restores i n spots w) r → Shown show (Clean.Restores i n spots w') r' →
    CleanOnce.Same r r' w.exit w'.exit
put_determined e s s' =
    let same = CleanOnce.put_determined e s.promise s'.promise in
    record { answer = shown_same s s' same.answer; left = same.left }

-- ---- reasons

pub why_determined : {i : Inputs} {k : ℕ} {r r' : WhyReport} → Shown Reasons.report (Why.Promise i k) r → Shown Reasons.report (Why.Promise i k) r' → r ≡ r'
why_determined s s' = shown_same s s' (WhyOnce.determined s.promise s'.promise)

-- ---- cubics

pub cubic_equal_orders : {i : Inputs} {w w' : Both Outputs Outputs} {r r' : CubicReport} →
    CubicsOnce.places_of w.entry ≡ CubicsOnce.places_of w'.entry →
    (s : Shown FromCubics.report (Cubics.Promise i w) r) → (s' : Shown FromCubics.report (Cubics.Promise i w') r') →
    CubicsOnce.Same r r' (CubicsOnce.first_of s.answer w.exit) (CubicsOnce.first_of s'.answer w'.exit)
cubic_equal_orders e s s' =
    let same = CubicsOnce.equal_orders e s.promise s'.promise in
    record { answer = shown_same s s' same.answer; left = same.left }

pub cubic_determined : {i : Inputs} {w w' : Both Outputs Outputs} {r r' : CubicReport} → w.entry ≡ w'.entry →
    Shown FromCubics.report (Cubics.Promise i w) r → Shown FromCubics.report (Cubics.Promise i w') r' → CubicsOnce.Same r r' w.exit w'.exit
cubic_determined e s s' =
    let same = CubicsOnce.determined e s.promise s'.promise in
    record { answer = shown_same s s' same.answer; left = same.left }

-- ---- implied points

pub explicit_equal_orders : {i : Inputs} {w w' : Both Outputs Outputs} {r r' : ExplicitReport} →
    ExplicitOnce.places_of w.entry ≡ ExplicitOnce.places_of w'.entry →
    (s : Shown WrittenOut.report (Explicit.Promise i w) r) → (s' : Shown WrittenOut.report (Explicit.Promise i w') r') →
    ExplicitOnce.Same r r' (ExplicitOnce.first_of s.answer w.exit) (ExplicitOnce.first_of s'.answer w'.exit)
explicit_equal_orders e s s' =
    let same = ExplicitOnce.equal_orders e s.promise s'.promise in
    record { answer = shown_same s s' same.answer; left = same.left }

pub explicit_determined : {i : Inputs} {w w' : Both Outputs Outputs} {r r' : ExplicitReport} → w.entry ≡ w'.entry →
    Shown WrittenOut.report (Explicit.Promise i w) r → Shown WrittenOut.report (Explicit.Promise i w') r' → ExplicitOnce.Same r r' w.exit w'.exit
explicit_determined e s s' =
    let same = ExplicitOnce.determined e s.promise s'.promise in
    record { answer = shown_same s s' same.answer; left = same.left }

-- ---- glyph descriptions

pub read_determined : {bytes : List ℕ} {w w' : Both Glyph Glyph} {r r' : GlyphReadReport} → w.entry ≡ w'.entry →
    Shown read_report (Read.Promise bytes w) r → Shown read_report (Read.Promise bytes w') r' → ReadOnce.Same r r' w.exit w'.exit
read_determined e s s' =
    let d = ReadOnce.determined e s.promise s'.promise in
    record { answer = shown_same s s' d.answer; left = d.left }

pub read_equal_orders : {bytes : List ℕ} {w w' : Both Glyph Glyph} {r r' : GlyphReadReport} → Layout.rooms_of w.entry ≡ Layout.rooms_of w'.entry →
    Shown read_report (Read.Promise bytes w) r → Shown read_report (Read.Promise bytes w') r' → ReadOnce.Alike r r' w w'
read_equal_orders e s s' =
    let d = ReadOnce.equal_orders e s.promise s'.promise in
    record { answer = shown_same s s' d.answer; outcome = d.outcome; left = d.left; left' = d.left' }

pub write_determined : {g : Glyph} {out out' : Lent ℕ} {r r' : GlyphWriteReport} → before out ≡ before out' →
    Shown write_report (Write.Promise g out) r → Shown write_report (Write.Promise g out') r' → WriteOnce.Same r r' (after out) (after out')
write_determined e s s' =
    let d = WriteOnce.determined e s.promise s'.promise in
    record { answer = shown_same s s' d.answer; left = d.left }

pub write_equal_orders : {g : Glyph} {out out' : Lent ℕ} {r r' : GlyphWriteReport} → room out ≡ room out' →
    Shown write_report (Write.Promise g out) r → Shown write_report (Write.Promise g out') r' → WriteOnce.Alike r r' out out'
write_equal_orders e s s' =
    let d = WriteOnce.equal_orders e s.promise s'.promise in
    record { answer = shown_same s s' d.answer; outcome = d.outcome; left = d.left; left' = d.left' }

pub crunch_determined : {bytes : List ℕ} {settings : Settings} {t t' : Crunch.LentRows} {r r' : GlyphWriteReport} → t.entry ≡ t'.entry →
    Shown write_report (Crunch.Promise bytes settings t) r → Shown write_report (Crunch.Promise bytes settings t') r' →
    CrunchOnce.Same r r' t.exit t'.exit
crunch_determined e s s' =
    let d = CrunchOnce.determined e s.promise s'.promise in
    record { answer = shown_same s s' d.answer; out = d.out; read = d.read; work = d.work; points = d.points }

pub crunch_equal_orders : {bytes : List ℕ} {settings : Settings} {t t' : Crunch.LentRows} {r r' : GlyphWriteReport} →
    Crunch.rooms_of t.entry ≡ Crunch.rooms_of t'.entry →
    Shown write_report (Crunch.Promise bytes settings t) r → Shown write_report (Crunch.Promise bytes settings t') r' → CrunchOnce.Alike r r' t t'
crunch_equal_orders e s s' =
    let d = CrunchOnce.equal_orders e s.promise s'.promise in
    record {
      answer = shown_same s s' d.answer;
      outcome = d.outcome;
      left = d.left;
      left' = d.left';
      read = d.read;
      work = d.work;
      points = d.points;
    }

-- ---- GLIF files

pub glif_read_determined : {bytes : List ℕ} {w w' : Both GlifReads.Kept GlifReads.Kept} {r r' : GlifReadReport} → w.entry ≡ w'.entry →
    Shown Glif.read_report (GlifRead.Promise bytes w) r → Shown Glif.read_report (GlifRead.Promise bytes w') r' →
    GlifReadOnce.Same r r' w.exit w'.exit
glif_read_determined e s s' =
    let d = GlifReadOnce.determined e s.promise s'.promise in
    record { answer = shown_same s s' d.answer; left = d.left }

pub glif_read_equal_orders : {bytes : List ℕ} {w w' : Both GlifReads.Kept GlifReads.Kept} {r r' : GlifReadReport} →
    GlifReads.rooms_of w.entry ≡ GlifReads.rooms_of w'.entry →
    Shown Glif.read_report (GlifRead.Promise bytes w) r → Shown Glif.read_report (GlifRead.Promise bytes w') r' → GlifReadOnce.Alike r r' w w'
glif_read_equal_orders e s s' =
    let d = GlifReadOnce.equal_orders e s.promise s'.promise in
    record { answer = shown_same s s' d.answer; file = d.file; rooms = d.rooms; left = d.left; left' = d.left' }

pub glif_write_determined : {bytes : List ℕ} {g : GivenRows} {w w' : Both (List ℕ) (List ℕ)} {r r' : GlifWriteReport} → w.entry ≡ w'.entry →
    Shown Glif.write_report (GlifWrite.Promise bytes g w) r → Shown Glif.write_report (GlifWrite.Promise bytes g w') r' →
    GlifWriteOnce.Same r r' w.exit w'.exit
glif_write_determined e s s' =
    let d = GlifWriteOnce.determined e s.promise s'.promise in
    record { answer = shown_same s s' d.answer; left = d.left }

pub glif_write_equal_orders : {bytes : List ℕ} {g : GivenRows} {w w' : Both (List ℕ) (List ℕ)} {r r' : GlifWriteReport} →
    length w.entry ≡ length w'.entry →
    Shown Glif.write_report (GlifWrite.Promise bytes g w) r → Shown Glif.write_report (GlifWrite.Promise bytes g w') r' →
    GlifWriteOnce.Alike bytes g r r' w w'
glif_write_equal_orders e s s' =
    let d = GlifWriteOnce.equal_orders e s.promise s'.promise in
    record { answer = shown_same s s' d.answer; room = d.room; left = d.left; left' = d.left' }

pub glif_crunch_determined : {bytes : List ℕ} {settings : Settings} {t t' : GlifCrunch.LentRows} {r r' : GlifWriteReport} → t.entry ≡ t'.entry →
    Shown Glif.write_report (GlifCrunch.Promise bytes settings t) r → Shown Glif.write_report (GlifCrunch.Promise bytes settings t') r' →
    GlifCrunchOnce.Same r r' t.exit t'.exit
glif_crunch_determined e s s' =
    let d = GlifCrunchOnce.determined e s.promise s'.promise in
    record { answer = shown_same s s' d.answer; out = d.out; read = d.read; work = d.work; points = d.points }

pub glif_crunch_equal_orders : {bytes : List ℕ} {settings : Settings} {t t' : GlifCrunch.LentRows} {r r' : GlifWriteReport} →
    GlifCrunch.rooms_of t.entry ≡ GlifCrunch.rooms_of t'.entry →
    Shown Glif.write_report (GlifCrunch.Promise bytes settings t) r → Shown Glif.write_report (GlifCrunch.Promise bytes settings t') r' →
    GlifCrunchOnce.Alike bytes r r' t t'
glif_crunch_equal_orders e s s' =
    let d = GlifCrunchOnce.equal_orders e s.promise s'.promise in
    record {
      answer = shown_same s s' d.answer;
      outcome = d.outcome;
      left = d.left;
      left' = d.left';
      read = d.read;
      work = d.work;
      points = d.points;
    }

-- ---- two editions

pub record EqualReports (r r' : EditionsReport) (t t' : Editions.Rows) : Type 0 where
  pub answer : Answers.Editions
  pub answer' : Answers.Editions
  pub same : r ≡ r'
  pub both : EditionsOnce.EqualBoth answer answer' t t'

same_answers : {r r' : Answers.Editions} {t t' : Editions.Rows} → EditionsOnce.EqualBoth r r' t t' → r ≡ r'
same_answers e = rw (e.of_a_lem.answer, e.of_b_lem.answer) refl

pub editions_equal_orders : {i : Inputs} {o : Order} {t t' : Editions.LentRows} {r r' : EditionsReport} → EditionsOnce.AlikeBoth t.entry t'.entry →
    Shown BothEditions.report (Editions.Promise i o t) r → Shown BothEditions.report (Editions.Promise i o t') r' → EqualReports r r' t.exit t'.exit
editions_equal_orders l s s' =
    let both = EditionsOnce.equal_orders l s.promise s'.promise in
    record { answer = s.answer; answer' = s'.answer; same = shown_same s s' (same_answers both); both = both }
