-- The promise of `read_glif` determines the answer and every lent row; and the answer and what enters the rows are those of the bytes
-- and of the lengths of the rows alone, whatever the rows held. Assumes nothing.
use Rattle.std.specs.Prelude.{ℕ, List, ◌≡◌, refl, replicate, Option, Some, None, is_some, Result, Err}
use Rattle.std.proofs.Common.{sym, ap, ◌∙◌, arith}
use Rattle.refusals.specs.declared.refusal.Refusal.{Refusal}
use denote.Triple.Both.{Both}
use Rattle.gliftext.specs.Pick.{pick}
use Rattle.glif.specs.Scan.{Judged, judged}
use Rattle.glif.specs.declared.scan.Totals.{Totals}
use Rattle.glifread.specs.Enter.{no_place, Filled, enter_up_to, enter_all, filled}
use Rattle.glifread.specs.Reads.{Kept, kept, Rooms, rooms_of, scratch_room, refusal_in, answer_of, answer_by, enters_by, left_by}
use Rattle.glifread.specs.Entry.{judged_in, Promise}
use Rattle.glifread.specs.declared.read.Counts.{Counts}

-- all that is handed back and left is equal
pub record Same {A : Type 0} (r r' : A) (w w' : Kept) : Type 0 where
  pub answer : r ≡ r'
  pub left : w ≡ w'

-- two outcomes of one order are one
pub determined : {bytes : List ℕ} {w w' : Both Kept Kept} {r r' : Result Counts Refusal} → w.entry ≡ w'.entry →
    Promise bytes w r → Promise bytes w' r' → Same r r' w.exit w'.exit
determined {bytes} e p p' = record {
  answer = p.answer ∙ ap (λ (v : Kept). answer_by (judged_in bytes (rooms_of v)) (rooms_of v)) e ∙ sym p'.answer;
  left = p.left ∙ ap (λ (v : Kept). left_by (judged_in bytes (rooms_of v)) (rooms_of v) v) e ∙ sym p'.left;
}

-- one file enters both, whatever the rows held: the answers are equal, and the same contours are put into the rows
pub record Alike {A : Type 0} (r r' : A) (w w' : Both Kept Kept) : Type 0 where
  pub answer : r ≡ r'
  pub file : Judged
  pub rooms : Rooms
  pub left : w.exit ≡ left_by file rooms w.entry
  pub left' : w'.exit ≡ left_by file rooms w'.entry

pub equal_orders : {bytes : List ℕ} {w w' : Both Kept Kept} {r r' : Result Counts Refusal} → rooms_of w.entry ≡ rooms_of w'.entry →
    Promise bytes w r → Promise bytes w' r' → Alike r r' w w'
equal_orders {bytes} {w} {w'} e p p' = record {
  answer = p.answer ∙ ap (λ (v : Rooms). answer_by (judged_in bytes v) v) e ∙ sym p'.answer;
  file = judged_in bytes (rooms_of w.entry);
  rooms = rooms_of w.entry;
  left = p.left;
  left' = p'.left ∙ ap (λ (v : Rooms). left_by (judged_in bytes v) v w'.entry) (sym e);
}

-- ---- a refusal writes nothing but zeros in the scratch row

nothing : (ps : List (List ℕ)) (n : ℕ) (f : Filled) → enter_all ps n 0 f ≡ f
unfolding enter_all enter_up_to
nothing ps n (filled ends r) = refl

none_in : (ps : List (List ℕ)) (g : Totals) (o : Option Refusal) (f : Filled) (k : Refusal) → Err k ≡ answer_of g o →
    enter_all ps g.points (pick (is_some o) 0 g.contours) f ≡ f
unfolding pick
none_in ps g (Some e) f k h = nothing ps g.points f
none_in ps g None f k h = absurd (let z : ◌≡◌ {A = ℕ} 0 1 = cc in omega arith)

none_enters : (j : Judged) (v : Rooms) (f : Filled) (k : Refusal) → Err k ≡ answer_by j v → enters_by j v f ≡ f
none_enters (judged g ps) v f k h = none_in ps g (refusal_in g v) f k h

pub refused_leaves : {bytes : List ℕ} {f f' : Filled} {ps ps' : List (List ℕ)} {k : Refusal} →
    Promise bytes (record { entry = kept f ps; exit = kept f' ps' }) (Err k) →
    kept f' ps' ≡ kept f (replicate (scratch_room (rooms_of (kept f ps))) no_place)
refused_leaves {bytes} {f} {f'} {ps} {ps'} {k} p =
    p.left ∙ ap (λ (g : Filled). kept g (replicate (scratch_room (rooms_of (kept f ps))) no_place))
    (none_enters (judged_in bytes (rooms_of (kept f ps))) (rooms_of (kept f ps)) f k p.answer)
