-- The promise of `write_glif` determines the answer and the row that is written; and the answer and what is written are those of the file,
-- the rows and the length of the row alone, whatever it held. Assumes nothing.
use Rattle.std.specs.Prelude.{ℕ, List, ◌≡◌, refl, length, Option, Some, None, is_some, Result, Err}
use Rattle.std.proofs.Common.{sym, ap, ◌∙◌, arith}
use Rattle.refusals.specs.declared.refusal.Refusal.{Refusal}
use denote.Triple.Both.{Both}
use Rattle.gliftext.specs.Pick.{pick}
use Rattle.glifwrite.specs.Puts.{put_range}
use Rattle.glifwrite.specs.Writes.{GivenRows, copy_to, write_all, row_in, answer_as, refusal_in, answer_of, left_in}
use Rattle.glifwrite.specs.Entry.{Promise}

-- all that is handed back and left is equal
pub record Same {A : Type 0} (r r' : A) (w w' : List ℕ) : Type 0 where
  pub answer : r ≡ r'
  pub left : w ≡ w'

-- two outcomes of one order are one
pub determined : {bytes : List ℕ} {g : GivenRows} {w w' : Both (List ℕ) (List ℕ)} {r r' : Result ℕ Refusal} → w.entry ≡ w'.entry →
    Promise bytes g w r → Promise bytes g w' r' → Same r r' w.exit w'.exit
determined {bytes} {g} e p p' = record {
  answer = p.answer ∙ ap (λ (v : List ℕ). answer_of bytes g (length v)) e ∙ sym p'.answer;
  left = p.left ∙ ap (λ (v : List ℕ). left_in bytes g (length v) v) e ∙ sym p'.left;
}

-- one file is written to both, whatever the rows held: the answers are equal, and the same is put into each
pub record Alike {A : Type 0} (bytes : List ℕ) (g : GivenRows) (r r' : A) (w w' : Both (List ℕ) (List ℕ)) : Type 0 where
  pub answer : r ≡ r'
  pub room : ℕ
  pub left : w.exit ≡ left_in bytes g room w.entry
  pub left' : w'.exit ≡ left_in bytes g room w'.entry

pub equal_orders : {bytes : List ℕ} {g : GivenRows} {w w' : Both (List ℕ) (List ℕ)} {r r' : Result ℕ Refusal} → length w.entry ≡ length w'.entry →
    Promise bytes g w r → Promise bytes g w' r' → Alike bytes g r r' w w'
equal_orders {bytes} {g} {w} {w'} e p p' = record {
  answer = p.answer ∙ ap (answer_of bytes g) e ∙ sym p'.answer;
  room = length w.entry;
  left = p.left;
  left' = p'.left ∙ ap (λ (n : ℕ). left_in bytes g n w'.entry) (sym e);
}

-- ---- a refusal writes nothing

none_copied : (bytes : List ℕ) (g : GivenRows) (out : List ℕ) → row_in (write_all bytes g 0 out) ≡ out
unfolding write_all copy_to put_range
none_copied bytes g out = refl

none_left : (bytes : List ℕ) (g : GivenRows) (o : Option Refusal) (size : ℕ) (out : List ℕ) (k : Refusal) → Err k ≡ answer_as o size →
    row_in (write_all bytes g (pick (is_some o) 0 (length bytes)) out) ≡ out
unfolding pick
none_left bytes g (Some e) size out k h = none_copied bytes g out
none_left bytes g None size out k h = absurd (let z : ◌≡◌ {A = ℕ} 0 1 = cc in omega arith)

pub refused_leaves : {bytes : List ℕ} {g : GivenRows} {w : Both (List ℕ) (List ℕ)} {k : Refusal} → Promise bytes g w (Err k) → w.exit ≡ w.entry
refused_leaves {bytes} {g} {w} {k} p = p.left ∙ none_left bytes g (refusal_in bytes g (length w.entry)) _ w.entry k p.answer
