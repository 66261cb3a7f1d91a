-- What the promises of specs/Calls/Glyph say of a report, and of two calls. Assumes nothing.
use Prim.Native.Nat.{ℕ}
use mathlib.Core.List.{List}
use mathlib.Core.Path.{◌≡◌, refl, sym, subst}
use Rattle.rows.specs.Rows.{Work, work}
use Rattle.contour.specs.Points.{Points}
use Rattle.glyf.specs.Layout.{Glyph, Outcome, done, refused}
use Rattle.glyfread.specs.Reads as Reads
use Rattle.glyfread.specs.Determine as Reading
use Rattle.glyfwrite.specs.Writes as Writes
use Rattle.glyfwrite.specs.Determine as Writing
use Rattle.glyphs.specs.Determine as Crunching
use Rattle.exports.specs.Glyph.{read_report, write_report}
use Rattle.exports.specs.Determine.{read_determined, read_equal_orders, write_determined, write_equal_orders, crunch_determined, crunch_equal_orders}
use Rattle.exports.specs.Calls.Glyph.{ReadGlyphGiven, ReadGlyphLeft, ReadGlyphIs, ReadGlyphShows, ReadGlyphAlike, read_glyph_defined, read_glyph_rows}
use Rattle.exports.specs.Calls.Glyph.{WriteGlyphGiven, WriteGlyphLeft, WriteGlyphIs, GlyphBytesShow, WriteGlyphAlike, write_glyph_defined, write_glyph_row}
use Rattle.exports.specs.Calls.Glyph.{CrunchGlyphGiven, CrunchGlyphLeft, CrunchGlyphIs, CrunchGlyphAlike, crunch_glyph_defined, crunch_glyph_rows}
use Rattle.exports.specs.declared.glyph.GlyphReadReport.{GlyphReadReport}
use Rattle.exports.specs.declared.glyph.GlyphWriteReport.{GlyphWriteReport}

-- ---- read

pub read_shows : {g : ReadGlyphGiven} {l : ReadGlyphLeft} → ReadGlyphIs g l → ReadGlyphShows (read_glyph_defined g) l.report
read_shows {g} {l} p = rw (p.shown.is, p.shown.promise.answer) (by (read_glyph_defined g))
  where
    by : (o : Outcome Glyph) → ReadGlyphShows o (read_report (Reads.answer_of o))
    by (refused k) = (refl, refl, refl, refl)
    by (done g) = (refl, refl, refl, refl)

read_glyph_left_by : GlyphReadReport → Glyph → ReadGlyphLeft
read_glyph_left_by r g = record { report = r; ends = g.ends; xs = g.xs; ys = g.ys; flags = g.flags; instructions = g.instructions }

pub read_left : {g g' : ReadGlyphGiven} {l l' : ReadGlyphLeft} → ReadGlyphIs g l → ReadGlyphIs g' l' → g ≡ g' → l ≡ l'
unfolding read_glyph_left_by
read_left {g} {g'} {l} {l'} p q e =
    let same = read_determined refl p.shown (subst (λ (h : ReadGlyphGiven). ReadGlyphIs h l') (sym e) q).shown in
    λ i. read_glyph_left_by (same.answer i) (same.left i)

pub read_equal : {g g' : ReadGlyphGiven} {l l' : ReadGlyphLeft} → ReadGlyphIs g l → ReadGlyphIs g' l' → ReadGlyphAlike g g' →
    Reading.Alike l.report l'.report (read_glyph_rows g l) (read_glyph_rows g' l')
read_equal p q a = read_equal_orders a.rooms p.shown (rw (← a.bytes) at q.shown)

-- ---- written

bytes_show : (o : Outcome (List ℕ)) → GlyphBytesShow o (write_report (Writes.answer_of o))
bytes_show (refused k) = (refl, refl)
bytes_show (done bytes) = (refl, refl)

pub write_shows : {g : WriteGlyphGiven} {l : WriteGlyphLeft} → WriteGlyphIs g l → GlyphBytesShow (write_glyph_defined g) l.report
write_shows {g} {l} p = rw (p.shown.is, p.shown.promise.answer) (bytes_show (write_glyph_defined g))

write_glyph_left_by : GlyphWriteReport → List ℕ → WriteGlyphLeft
write_glyph_left_by r out = record { report = r; out = out }

pub write_left : {g g' : WriteGlyphGiven} {l l' : WriteGlyphLeft} → WriteGlyphIs g l → WriteGlyphIs g' l' → g ≡ g' → l ≡ l'
unfolding write_glyph_left_by
write_left {g} {g'} {l} {l'} p q e =
    let same = write_determined refl p.shown (subst (λ (h : WriteGlyphGiven). WriteGlyphIs h l') (sym e) q).shown in
    λ i. write_glyph_left_by (same.answer i) (same.left i)

pub write_equal : {g g' : WriteGlyphGiven} {l l' : WriteGlyphLeft} → WriteGlyphIs g l → WriteGlyphIs g' l' → WriteGlyphAlike g g' →
    Writing.Alike l.report l'.report (write_glyph_row g l) (write_glyph_row g' l')
write_equal p q a = write_equal_orders a.room p.shown (rw (← a.glyph) at q.shown)

-- ---- crunched

pub crunch_shows : {g : CrunchGlyphGiven} {l : CrunchGlyphLeft} → CrunchGlyphIs g l → GlyphBytesShow (crunch_glyph_defined g) l.report
crunch_shows {g} {l} p = rw (p.shown.is, p.shown.promise.answer) (bytes_show (crunch_glyph_defined g))

crunch_glyph_left_by : GlyphWriteReport → List ℕ → Glyph → Work → Points → CrunchGlyphLeft
crunch_glyph_left_by r out g (work s b a l) p = record {
  report = r;
  out = out;
  ends = g.ends;
  xs = g.xs;
  ys = g.ys;
  flags = g.flags;
  instructions = g.instructions;
  samples = s;
  breaks = b;
  answers = a;
  links = l;
  points = p;
}

pub crunch_left_lem : {g g' : CrunchGlyphGiven} {l l' : CrunchGlyphLeft} → CrunchGlyphIs g l → CrunchGlyphIs g' l' → g ≡ g' → l ≡ l'
unfolding crunch_glyph_left_by
crunch_left_lem {g} {g'} {l} {l'} p q e =
    let same = crunch_determined refl p.shown (subst (λ (h : CrunchGlyphGiven). CrunchGlyphIs h l') (sym e) q).shown in
    λ i. crunch_glyph_left_by (same.answer i) (same.out i) (same.read i) (same.work i) (same.points i)

pub crunch_equal : {g g' : CrunchGlyphGiven} {l l' : CrunchGlyphLeft} → CrunchGlyphIs g l → CrunchGlyphIs g' l' → CrunchGlyphAlike g g' →
    Crunching.Alike l.report l'.report (crunch_glyph_rows g l) (crunch_glyph_rows g' l')
crunch_equal p q a = crunch_equal_orders a.rooms p.shown (rw (← a.bytes, ← a.settings) at q.shown)
