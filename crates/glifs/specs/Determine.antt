-- The promise of `crunch_glif` determines the answer and every lent row; and the answer and the file written are those of the bytes read, of the
-- settings and of the lengths of the rows alone, whatever the rows held. Assumes nothing.
use Rattle.std.specs.Prelude.{ℕ, List, ◌≡◌, refl, length, replicate, Result, Err}
use Rattle.refusals.specs.declared.refusal.Refusal.{Refusal}
use Rattle.std.proofs.Common.{sym, ap, ◌∙◌}
use Rattle.rows.specs.Rows.{point_zero}
use Rattle.settings.specs.declared.Settings.{Settings}
use Rattle.edition.specs.Scratch.{cleared}
use Rattle.edition.specs.Laws.{same_cleared}
use Rattle.glyf.specs.Layout.{Outcome, done, refused}
use Rattle.glifread.specs.Reads as Reads
use Rattle.glifwrite.specs.Writes.{GivenRows, left_in}
use Rattle.glifwrite.specs.Determine as Written
use Rattle.glifs.specs.Glifs.{Rooms, crunch_glif_of, shown_of, left_of}
use Rattle.glifs.specs.Entry.{Rows, LentRows, rooms_of, whole_of, zero_kept, Promise}

-- all that is handed back and left is equal
pub record Same {A : Type 0} (r r' : A) (t t' : Rows) : Type 0 where
  pub answer : r ≡ r'
  pub out : t.out ≡ t'.out
  pub read : t.read ≡ t'.read
  pub work : t.work ≡ t'.work
  pub points : t.points ≡ t'.points

-- two outcomes of one order are one
pub determined : {bytes : List ℕ} {settings : Settings} {t t' : LentRows} {r r' : Result ℕ Refusal} → t.entry ≡ t'.entry →
    Promise bytes settings t r → Promise bytes settings t' r' → Same r r' t.exit t'.exit
determined {bytes} {settings} e p p' = record {
  answer = p.answer ∙ ap (λ (u : Rows). shown_of bytes (length u.out) (whole_of bytes settings u)) e ∙ sym p'.answer;
  out = p.out ∙ ap (λ (u : Rows). left_of bytes (whole_of bytes settings u) u.out) e ∙ sym p'.out;
  read = p.read ∙ ap (λ (u : Rows). zero_kept (Reads.rooms_of u.read)) e ∙ sym p'.read;
  work = p.work ∙ ap (λ (u : Rows). cleared u.work) e ∙ sym p'.work;
  points = p.points ∙ ap (λ (u : Rows). replicate (length u.points) point_zero) e ∙ sym p'.points;
}

-- one outcome is written into both rows of bytes, whatever they held; the answers are equal, and so is every scratch row
pub record Alike {A : Type 0} (bytes : List ℕ) (r r' : A) (t t' : LentRows) : Type 0 where
  pub answer : r ≡ r'
  pub outcome : Outcome GivenRows
  pub left : t.exit.out ≡ left_of bytes outcome t.entry.out
  pub left' : t'.exit.out ≡ left_of bytes outcome t'.entry.out
  pub read : t.exit.read ≡ t'.exit.read
  pub work : t.exit.work ≡ t'.exit.work
  pub points : t.exit.points ≡ t'.exit.points

pub equal_orders : {bytes : List ℕ} {settings : Settings} {t t' : LentRows} {r r' : Result ℕ Refusal} → rooms_of t.entry ≡ rooms_of t'.entry →
    Promise bytes settings t r → Promise bytes settings t' r' → Alike bytes r r' t t'
equal_orders {bytes} {settings} {t} {t'} e p p' = record {
  answer = p.answer ∙ ap (λ (n : Rooms). shown_of bytes n.out (crunch_glif_of n settings bytes)) e ∙ sym p'.answer;
  outcome = whole_of bytes settings t.entry;
  left = p.out;
  left' = p'.out ∙ ap (λ (n : Rooms). left_of bytes (crunch_glif_of n settings bytes) t'.entry.out) (sym e);
  read = p.read ∙ ap (λ (n : Rooms). zero_kept n.read) e ∙ sym p'.read;
  work = p.work ∙ same_cleared t.entry.work t'.entry.work (ap (λ (n : Rooms). n.work) e) ∙ sym p'.work;
  points = p.points ∙ ap (λ (n : Rooms). replicate n.points point_zero) e ∙ sym p'.points;
}

-- ---- a refusal writes no byte

unless_done : (bytes : List ℕ) (o : Outcome GivenRows) (out : List ℕ) (k : Refusal) → Err k ≡ shown_of bytes (length out) o → left_of bytes o out ≡ out
unless_done bytes (done g) out k h =
    Written.refused_leaves {w = record { entry = out; exit = left_in bytes g (length out) out }} {k = k} (record { answer = h; left = refl })
unless_done bytes (refused j) out k h = refl

pub refused_leaves : {bytes : List ℕ} {settings : Settings} {t : LentRows} {k : Refusal} → Promise bytes settings t (Err k) → t.exit.out ≡ t.entry.out
refused_leaves {bytes} {settings} {t} {k} p = p.out ∙ unless_done bytes (whole_of bytes settings t.entry) t.entry.out k p.answer
