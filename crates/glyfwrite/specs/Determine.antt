-- The promise of `write_glyph` determines the answer and the row of bytes; and the answer and the bytes are those of the rows read and of the
-- length of the row of bytes alone, whatever it held. Assumes nothing.
use Rattle.std.specs.Prelude.{List, ◌≡◌, refl, ℕ, length, Result, Err}
use Rattle.std.proofs.Common.{sym, ap, ◌∙◌, arith}
use Rattle.refusals.specs.declared.refusal.Refusal.{Refusal}
use Rattle.rows.specs.Lent.{Lent, before, after, room}
use Rattle.glyf.specs.Layout.{Glyph, Outcome, done, refused, laid, left_by, written_of}
use Rattle.glyfwrite.specs.Writes.{answer_of}
use Rattle.glyfwrite.specs.Entry.{Promise}

-- all that is handed back and left is equal
pub record Same {A : Type 0} (r r' : A) (out out' : List ℕ) : Type 0 where
  pub answer : r ≡ r'
  pub left : out ≡ out'

-- two outcomes of one order are one
pub determined : {g : Glyph} {out out' : Lent ℕ} {r r' : Result ℕ Refusal} → before out ≡ before out' →
    Promise g out r → Promise g out' r' → Same r r' (after out) (after out')
determined {g} e p p' = record {
  answer = p.answer ∙ ap (λ (row : List ℕ). answer_of (written_of (length row) g)) e ∙ sym p'.answer;
  left = p.left ∙ ap (λ (row : List ℕ). left_by laid (written_of (length row) g) row) e ∙ sym p'.left;
}

-- one outcome is laid into both, whatever the rows held: the answers are equal, and so are the bytes at the front
pub record Alike {A : Type 0} (r r' : A) (out out' : Lent ℕ) : Type 0 where
  pub answer : r ≡ r'
  pub outcome : Outcome (List ℕ)
  pub left : after out ≡ left_by laid outcome (before out)
  pub left' : after out' ≡ left_by laid outcome (before out')

pub equal_orders : {g : Glyph} {out out' : Lent ℕ} {r r' : Result ℕ Refusal} → room out ≡ room out' → Promise g out r → Promise g out' r' → Alike r r' out out'
equal_orders {g} {out} {out'} e p p' = record {
  answer = p.answer ∙ ap (λ (n : ℕ). answer_of (written_of n g)) e ∙ sym p'.answer;
  outcome = written_of (room out) g;
  left = p.left;
  left' = p'.left ∙ ap (λ (n : ℕ). left_by laid (written_of n g) (before out')) (sym e);
}

-- ---- a refusal writes nothing

unless_done : (o : Outcome (List ℕ)) (row : List ℕ) (k : Refusal) → Err k ≡ answer_of o → left_by laid o row ≡ row
unless_done (done bytes) row k e = absurd (let z : ◌≡◌ {A = ℕ} 0 1 = cc in omega arith)
unless_done (refused j) row k e = refl

pub refused_leaves : {g : Glyph} {out : Lent ℕ} {k : Refusal} → Promise g out (Err k) → after out ≡ before out
refused_leaves {g} {out} {k} p = p.left ∙ unless_done (written_of (room out) g) (before out) k p.answer
