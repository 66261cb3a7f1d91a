-- The promise of `read_glyph` determines the answer and every lent row; and the answer and what is read are those of the bytes and of the
-- lengths of the rows alone, whatever the rows held. Assumes nothing.
use Rattle.std.specs.Prelude.{List, ◌≡◌, refl, ℕ, Result, Err}
use Rattle.std.proofs.Common.{sym, ap, ◌∙◌, arith}
use Rattle.refusals.specs.declared.refusal.Refusal.{Refusal}
use denote.Triple.Both.{Both}
use Rattle.glyf.specs.Layout.{Glyph, Outcome, done, refused, Rooms, laid_in, left_by, rooms_of, read_of}
use Rattle.glyfread.specs.Reads.{answer_of}
use Rattle.glyfread.specs.Entry.{Promise}
use Rattle.glyfread.specs.declared.read.Counts.{Counts}

-- all that is handed back and left is equal
pub record Same {A : Type 0} (r r' : A) (w w' : Glyph) : Type 0 where
  pub answer : r ≡ r'
  pub left : w ≡ w'

-- two outcomes of one order are one
pub determined : {bytes : List ℕ} {w w' : Both Glyph Glyph} {r r' : Result Counts Refusal} → w.entry ≡ w'.entry →
    Promise bytes w r → Promise bytes w' r' → Same r r' w.exit w'.exit
determined {bytes} e p p' = record {
  answer = p.answer ∙ ap (λ (v : Glyph). answer_of (read_of (rooms_of v) bytes)) e ∙ sym p'.answer;
  left = p.left ∙ ap (λ (v : Glyph). left_by laid_in (read_of (rooms_of v) bytes) v) e ∙ sym p'.left;
}

-- one outcome is laid into both, whatever the rows held: the answers are equal, and so is what each row has at its front
pub record Alike {A : Type 0} (r r' : A) (w w' : Both Glyph Glyph) : Type 0 where
  pub answer : r ≡ r'
  pub outcome : Outcome Glyph
  pub left : w.exit ≡ left_by laid_in outcome w.entry
  pub left' : w'.exit ≡ left_by laid_in outcome w'.entry

pub equal_orders : {bytes : List ℕ} {w w' : Both Glyph Glyph} {r r' : Result Counts Refusal} → rooms_of w.entry ≡ rooms_of w'.entry →
    Promise bytes w r → Promise bytes w' r' → Alike r r' w w'
equal_orders {bytes} {w} {w'} e p p' = record {
  answer = p.answer ∙ ap (λ (rooms : Rooms). answer_of (read_of rooms bytes)) e ∙ sym p'.answer;
  outcome = read_of (rooms_of w.entry) bytes;
  left = p.left;
  left' = p'.left ∙ ap (λ (rooms : Rooms). left_by laid_in (read_of rooms bytes) w'.entry) (sym e);
}

-- ---- a refusal changes no row

unless_done : (o : Outcome Glyph) (v : Glyph) (k : Refusal) → Err k ≡ answer_of o → left_by laid_in o v ≡ v
unless_done (done g) v k e = absurd (let z : ◌≡◌ {A = ℕ} 0 1 = cc in omega arith)
unless_done (refused j) v k e = refl

pub refused_leaves : {bytes : List ℕ} {w : Both Glyph Glyph} {k : Refusal} → Promise bytes w (Err k) → w.exit ≡ w.entry
refused_leaves {bytes} {w} {k} p = p.left ∙ unless_done (read_of (rooms_of w.entry) bytes) w.entry k p.answer
