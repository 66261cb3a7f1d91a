-- What the promises of specs/Calls/Glif say of a report, and of two calls. Assumes nothing.
use Prim.Native.Nat.{ℕ}
use mathlib.Core.List.{List}
use mathlib.Core.Path.{◌≡◌, refl, sym, subst}
use Rattle.std.specs.Prelude.{Result, Ok, Err}
use Rattle.refusals.specs.declared.refusal.Refusal.{Refusal}
use Rattle.rows.specs.Rows.{Work, work}
use Rattle.contour.specs.Points.{Points}
use Rattle.glifread.specs.Enter.{rows, filled}
use Rattle.glifread.specs.Reads.{Kept, kept}
use Rattle.glifread.specs.Determine as Reading
use Rattle.glifread.specs.declared.read.Counts.{Counts}
use Rattle.glifwrite.specs.Determine as Writing
use Rattle.glifs.specs.Determine as Crunching
use Rattle.exports.specs.Glif.{read_report, write_report}
use Rattle.exports.specs.Determine.{glif_read_determined, glif_read_equal_orders, glif_write_determined, glif_write_equal_orders, glif_crunch_determined, glif_crunch_equal_orders}
use Rattle.exports.specs.declared.glif_files.GlifReadReport.{GlifReadReport}
use Rattle.exports.specs.declared.glif_files.GlifWriteReport.{GlifWriteReport}
use Rattle.exports.specs.Calls.Glif.{ReadGlifGiven, ReadGlifLeft, ReadGlifIs, ReadGlifShows, ReadGlifAlike, read_glif_defined, read_glif_rows}
use Rattle.exports.specs.Calls.Glif.{WriteGlifGiven, WriteGlifLeft, WriteGlifIs, GlifBytesShow, WriteGlifAlike, write_glif_defined, write_glif_rows, write_glif_row}
use Rattle.exports.specs.Calls.Glif.{CrunchGlifGiven, CrunchGlifLeft, CrunchGlifIs, CrunchGlifAlike, crunch_glif_defined, crunch_glif_rows}

-- ---- read

pub read_shows : {g : ReadGlifGiven} {l : ReadGlifLeft} → ReadGlifIs g l → ReadGlifShows (read_glif_defined g) l.report
read_shows {g} {l} p = rw (p.shown.is, p.shown.promise.answer) (by (read_glif_defined g))
  where
    by : (o : Result Counts Refusal) → ReadGlifShows o (read_report o)
    by (Err k) = (refl, refl, refl)
    by (Ok c) = (refl, refl, refl)

read_glif_left_by : GlifReadReport → Kept → ReadGlifLeft
read_glif_left_by r (kept (filled e (rows x y f)) p) = record { report = r; ends = e; xs = x; ys = y; flags = f; points = p }

pub read_left : {g g' : ReadGlifGiven} {l l' : ReadGlifLeft} → ReadGlifIs g l → ReadGlifIs g' l' → g ≡ g' → l ≡ l'
unfolding read_glif_left_by
read_left {g} {g'} {l} {l'} p q e =
    let same = glif_read_determined refl p.shown (subst (λ (h : ReadGlifGiven). ReadGlifIs h l') (sym e) q).shown in
    λ i. read_glif_left_by (same.answer i) (same.left i)

pub read_equal : {g g' : ReadGlifGiven} {l l' : ReadGlifLeft} → ReadGlifIs g l → ReadGlifIs g' l' → ReadGlifAlike g g' →
    Reading.Alike l.report l'.report (read_glif_rows g l) (read_glif_rows g' l')
read_equal p q a = glif_read_equal_orders a.rooms p.shown (rw (← a.bytes) at q.shown)

-- ---- written

bytes_show : (o : Result ℕ Refusal) → GlifBytesShow o (write_report o)
bytes_show (Err k) = (refl, refl)
bytes_show (Ok n) = (refl, refl)

pub write_shows : {g : WriteGlifGiven} {l : WriteGlifLeft} → WriteGlifIs g l → GlifBytesShow (write_glif_defined g) l.report
write_shows {g} {l} p = rw (p.shown.is, p.shown.promise.answer) (bytes_show (write_glif_defined g))

write_glif_left_by : GlifWriteReport → List ℕ → WriteGlifLeft
write_glif_left_by r out = record { report = r; out = out }

pub write_left : {g g' : WriteGlifGiven} {l l' : WriteGlifLeft} → WriteGlifIs g l → WriteGlifIs g' l' → g ≡ g' → l ≡ l'
unfolding write_glif_left_by
write_left {g} {g'} {l} {l'} p q e =
    let same = glif_write_determined refl p.shown (subst (λ (h : WriteGlifGiven). WriteGlifIs h l') (sym e) q).shown in
    λ i. write_glif_left_by (same.answer i) (same.left i)

pub write_equal : {g g' : WriteGlifGiven} {l l' : WriteGlifLeft} → WriteGlifIs g l → WriteGlifIs g' l' → WriteGlifAlike g g' →
    Writing.Alike g.bytes (write_glif_rows g) l.report l'.report (write_glif_row g l) (write_glif_row g' l')
write_equal p q a = glif_write_equal_orders a.room p.shown (rw (← a.bytes, ← a.rows) at q.shown)

-- ---- crunched

pub crunch_shows : {g : CrunchGlifGiven} {l : CrunchGlifLeft} → CrunchGlifIs g l → GlifBytesShow (crunch_glif_defined g) l.report
crunch_shows {g} {l} p = rw (p.shown.is, p.shown.promise.answer) (bytes_show (crunch_glif_defined g))

crunch_glif_left_by : GlifWriteReport → List ℕ → Kept → Work → Points → CrunchGlifLeft
crunch_glif_left_by r out (kept (filled e (rows x y f)) m) (work s b a l) p = record {
  report = r;
  out = out;
  ends = e;
  xs = x;
  ys = y;
  flags = f;
  marks = m;
  samples = s;
  breaks = b;
  answers = a;
  links = l;
  points = p;
}

pub crunch_left_lem : {g g' : CrunchGlifGiven} {l l' : CrunchGlifLeft} → CrunchGlifIs g l → CrunchGlifIs g' l' → g ≡ g' → l ≡ l'
unfolding crunch_glif_left_by
crunch_left_lem {g} {g'} {l} {l'} p q e =
    let same = glif_crunch_determined refl p.shown (subst (λ (h : CrunchGlifGiven). CrunchGlifIs h l') (sym e) q).shown in
    λ i. crunch_glif_left_by (same.answer i) (same.out i) (same.read i) (same.work i) (same.points i)

pub crunch_equal : {g g' : CrunchGlifGiven} {l l' : CrunchGlifLeft} → CrunchGlifIs g l → CrunchGlifIs g' l' → CrunchGlifAlike g g' →
    Crunching.Alike g.bytes l.report l'.report (crunch_glif_rows g l) (crunch_glif_rows g' l')
crunch_equal p q a = glif_crunch_equal_orders a.rooms p.shown (rw (← a.bytes, ← a.settings) at q.shown)
